-- A number with its sign, a window and weighted terms are read by first tokens.
use Rattle.line_phrases.specs.Imports.{refl, Fine, Quiet, is_same, token_number, constant, part, span, term, terms, window, Minus, Star, Token, Signed}
use Rattle.line_phrases.specs.BasicsLaws.{apart, count_fine, exact_sign, exact_word, number_fine}
use Rattle.line_phrases.specs.ListLaws.{bracket_list_fine, bracket_list_quiet, listed_fine, listed_quiet}
use Rattle.line_phrases.specs.PathsLaws.{path_fine, path_quiet}

pub constant_fine : Fine is_same constant
unfolding constant
constant_fine = search (number_fine, exact_sign, apart (exact_sign Minus) token_number refl)

pub constant_quiet : (t : Token) → Quiet is_same constant t
unfolding constant
constant_quiet t = search

pub span_fine : Fine is_same span
unfolding span
span_fine = search (count_fine, exact_sign)

pub span_quiet : (t : Token) → Quiet is_same span t
unfolding span
span_quiet t = search

pub window_fine : Fine is_same window
unfolding window
window_fine = search (exact_word, bracket_list_fine, span_fine, span_quiet)

pub window_quiet : (t : Token) → Quiet is_same window t
unfolding window
window_quiet t = search bracket_list_quiet

pub term_fine : Fine is_same term
unfolding term part
term_fine = (constant_fine, λ weight. (search (exact_sign, exact_word, path_fine, path_quiet, constant_fine, constant_quiet, bracket_list_fine) depth 12, constant_quiet (Signed Star)))

pub term_quiet : (t : Token) → Quiet is_same term t
unfolding term
term_quiet t = search bracket_list_quiet

pub terms_fine : Fine is_same terms
unfolding terms
terms_fine = search (exact_sign, listed_fine, listed_quiet, term_fine, term_quiet)

pub terms_quiet : (t : Token) → Quiet is_same terms t
unfolding terms
terms_quiet t = search
