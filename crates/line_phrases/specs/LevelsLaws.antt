-- Expressions are read by first tokens, level by level, to any depth of brackets.
use Rattle.line_phrases.specs.Imports.{cases_Bool, sym, ap, arith, list_any, bytes_eq-Decides, ℕ, zero, suc, Bool, true, false, List, [], Option, Some, None, is_some, bytes_eq, codes, ℤ, refl, Grammar, item, nothing, first, Fine, Firsts, Quiet, Skips, anyway, firsts_any, firsts_more, skips_more, Exact, alike, wider, is_same, is_sign, is_word, reserved, dimensions, name_of, token_number, index_of, choice_of, or_of, and_of, comparison_of, sum_of, product_of, index_word, Value, atom_within, bracketed, chain, choice, comparison, conjunction, expr, expr_over, leaf, link, links, negation, part, path, prefixed, product, signs, sum, unary, OpenParen, EqualEqual, Plus, Minus, Star, BinOp, Add, Mul, Min, Max, Eq, And, Or, Token, Word, Signed}
use Rattle.std.specs.Prelude.{◌≡◌, ◌<◌, if◌then◌else◌, ◌∷◌}
use Rattle.line_grammar.specs.Grammar.{either}
use Rattle.line_grammar.specs.Tokens.{listed}
use Rattle.line_phrases.specs.Inner.Exprs.{means}
use Rattle.line_phrases.specs.BasicsLaws.{apart, exact_sign, exact_word, level_of, number_fine}
use Rattle.line_phrases.specs.NestingLaws.{expr_under}
use Rattle.line_phrases.specs.PathsLaws.{part_level, path_fine, path_quiet}

-- an operator of a level: each of its tokens has that level, and one is known
pub record Operator (operator : Token → Option BinOp) (level : ℕ) : Type 0 where
  pub levels : (token : Token) → means operator token ≡ true → level ≡ level_of token
  pub some : Token
  pub op : BinOp
  pub shown : operator some ≡ Some op

or_word : (token : Token) (b : Bool) → is_word (codes "or") token ≡ b → is_some (if b then Some Or else None) ≡ true → 1 ≡ level_of token
or_word token true e h = sym (ap level_of ((exact_word (codes "or")).only token e))
or_word token false e h = absurd cc

and_word : (token : Token) (b : Bool) → is_word (codes "and") token ≡ b → is_some (if b then Some And else None) ≡ true → 2 ≡ level_of token
and_word token b e h = grind (arith, exact_word)

pub or_operator : Operator or_of 1
or_operator = record { levels = λ token h. or_word token (is_word (codes "or") token) refl h; some = Word (codes "or"); op = Or; shown = refl }

pub and_operator : Operator and_of 2
and_operator = record { levels = λ token h. and_word token (is_word (codes "and") token) refl h; some = Word (codes "and"); op = And; shown = refl }

pub comparison_levels : (token : Token) → means comparison_of token ≡ true → 3 ≡ level_of token
comparison_levels token h = grind arith

pub comparison_operator : Operator comparison_of 3
comparison_operator = record { levels = comparison_levels; some = Signed EqualEqual; op = Eq; shown = refl }

sum_levels : (token : Token) → means sum_of token ≡ true → 4 ≡ level_of token
sum_levels token h = grind arith

pub sum_operator : Operator sum_of 4
sum_operator = record { levels = sum_levels; some = Signed Plus; op = Add; shown = refl }

product_levels : (token : Token) → means product_of token ≡ true → 5 ≡ level_of token
product_levels token h = grind arith

pub product_operator : Operator product_of 5
product_operator = record { levels = product_levels; some = Signed Star; op = Mul; shown = refl }

-- operands that are read by first tokens, and go on with tokens of this level and higher ones alone
pub record Operand (k : ℕ) (one : Grammar Token Value) : Type 0 where
  pub fine : Fine is_same one
  pub quiet : (t : Token) → level_of t < k → Quiet is_same one t
  pub some : Skips one ⊥

none : (one : Grammar Token Value) (P : Type 0) → Skips one ⊥ → Skips one P
none one P s = skips_more one {P = ⊥} {Q = P} (λ bad. absurd bad) s

module _ (k : ℕ) (operator : Token → Option BinOp) (o : Operator operator k) (one : Grammar Token Value) (p : Operand (suc k) one) where
  pub link_fine : (left : Value) → Fine is_same (link operator one left)
  link_fine left = ((o.some, o.op, o.shown), λ op. ((p.fine, λ right. (tt, tt)), (firsts_any one (λ t. tt), anyway one (λ right. tt))))

  pub link_quiet : (left : Value) (t : Token) → level_of t < suc k → Quiet is_same (link operator one left) t
  link_quiet left t less = λ op. ((λ right. (tt, p.quiet t less)), anyway one (λ right. tt))

  level : (t : Token) (op : BinOp) → operator t ≡ Some op → level_of t < suc k
  level t op e = omega (arith, (o.levels t (ap is_some e)))

  no_operator : (t : Token) → level_of t < k → is_some (operator t) ≡ false
  no_operator t less = grind (arith, cases_Bool)

  pub links_fine : (left : Value) → Fine is_same (links operator one left)
  unfolding links
  links_fine left = ((λ a. (link_fine a, refl)), (λ a t. refl), λ a b. ((λ t op e. link_quiet b t (level t op e)), tt))

  pub chain_operand : Operand k (chain operator one)
  unfolding chain links
  chain_operand = record {
    fine = (p.fine, λ a. (links_fine a, ((λ t op e. p.quiet t (level t op e)), tt)));
    quiet = λ t less a. (((λ left. link_quiet left t (omega (arith, less))), no_operator t less), p.quiet t (omega (arith, less)));
    some = none one (Value → ⊥) p.some;
  }

  chain_firsts : (P : Token → Type 0) → Firsts one P → Firsts (chain operator one) P
  unfolding chain
  chain_firsts P f = (f, none one ((a : Value) → Firsts (links operator one a) P) p.some)

-- signs in front, of phrases that begin with none
pub prefixed_operand : (k : ℕ) (token : Token) → Exact (is_same token) token → (wrap : Value → Value) (one : Grammar Token Value) → Operand k one → Firsts one (λ t. is_same token t ≡ false)
    → Operand k (prefixed token wrap one)
unfolding prefixed signs
prefixed_operand k token exact wrap one p other = grind (arith, firsts_more, anyway, none)

prefixed_firsts : (token : Token) (wrap : Value → Value) (one : Grammar Token Value) (P : Token → Type 0) → P token → Firsts one P → Firsts (prefixed token wrap one) P
unfolding prefixed signs
prefixed_firsts token wrap one P own f = (own, λ n. (f, anyway one (λ value. tt)))

-- operands, none of which begins with a minus or with `not`
pub record Atoms (one : Grammar Token Value) : Type 0 where
  pub operand : Operand 6 one
  pub no_minus : Firsts one (λ t. is_sign Minus t ≡ false)
  pub no_not : Firsts one (λ t. is_word (codes "not") t ≡ false)

module _ (one : Grammar Token Value) (a : Atoms one) where
  pub unary_operand : Operand 6 (unary one)
  unfolding unary
  unary_operand = prefixed_operand 6 (Signed Minus) (exact_sign Minus) _ one a.operand a.no_minus

  pub product_operand : Operand 5 (product one)
  unfolding product
  product_operand = chain_operand 5 product_of product_operator (unary one) unary_operand

  pub sum_operand : Operand 4 (sum one)
  unfolding sum
  sum_operand = chain_operand 4 sum_of sum_operator (product one) product_operand

  pub comparison_operand : Operand 3 (comparison one)
  unfolding comparison
  comparison_operand =
      let s = sum_operand in
      let goes = link_quiet 3 comparison_of comparison_operator (sum one) s in
      let ends = no_operator 3 comparison_of comparison_operator (sum one) s in
      let opens = λ (t : Token) (op : BinOp) (e : comparison_of t ≡ Some op). s.quiet t (level 3 comparison_of comparison_operator (sum one) s t op e) in
      record {
        fine = (s.fine, λ left. (((link_fine 3 comparison_of comparison_operator (sum one) s) left, tt, refl, tt), ((opens, tt), tt)));
        quiet = λ t less left. ((goes left t (omega (arith, less)), tt, ends t less), (tt, s.quiet t (omega (arith, less))));
        some = none (sum one) ((left : Value) → Skips (either (link comparison_of (sum one) left) (nothing left)) ⊥) s.some;
      }

  sum_no_not : Firsts (sum one) (λ t. is_word (codes "not") t ≡ false)
  unfolding sum product unary
  sum_no_not = chain_firsts 4 sum_of sum_operator (product one) product_operand (λ t. is_word (codes "not") t ≡ false)
      (chain_firsts 5 product_of product_operator (unary one) unary_operand (λ t. is_word (codes "not") t ≡ false)
      (prefixed_firsts (Signed Minus) _ one (λ t. is_word (codes "not") t ≡ false) refl a.no_not))

  comparison_no_not : Firsts (comparison one) (λ t. is_word (codes "not") t ≡ false)
  unfolding comparison
  comparison_no_not = (sum_no_not, none (sum one) ((left : Value) → Firsts (either (link comparison_of (sum one) left) (nothing left)) (λ t. is_word (codes "not") t ≡ false)) sum_operand.some)

  pub negation_operand : Operand 3 (negation one)
  unfolding negation
  negation_operand = prefixed_operand 3 (Word (codes "not")) (exact_word (codes "not")) _ (comparison one) comparison_operand comparison_no_not

  pub conjunction_operand : Operand 2 (conjunction one)
  unfolding conjunction
  conjunction_operand = chain_operand 2 and_of and_operator (negation one) negation_operand

  pub over_operand : Operand 1 (expr_over one)
  unfolding expr_over
  over_operand = chain_operand 1 or_of or_operator (conjunction one) conjunction_operand

-- operands

-- words that are no names
abbrev AreReserved : {A : Type 0} → (A → List ℕ) → List A → Type 0
AreReserved word_of [] = Unit {0}
AreReserved word_of (value ∷ values) = (list_any (bytes_eq (word_of value)) reserved ≡ true) × AreReserved word_of values

-- the words of `min` and `max`
abbrev choice_word : BinOp → List ℕ
choice_word Max = codes "max"
choice_word _ = codes "min"

name_no_number : (token : Token) (x : List ℕ) → name_of token ≡ Some x → means token_number token ≡ false
name_no_number token x e = grind arith

name_no_index : (token : Token) (x : List ℕ) → name_of token ≡ Some x → means index_of token ≡ false
name_no_index token x e = grind (arith, is_some, list_any, bytes_eq)

name_no_choice : (token : Token) (x : List ℕ) → name_of token ≡ Some x → means choice_of token ≡ false
name_no_choice token x e = grind (arith, is_some, list_any, bytes_eq)

index_no_number : (token : Token) (d : ℕ) → index_of token ≡ Some d → means token_number token ≡ false
index_no_number token d e = grind arith

number_no_choice : (token : Token) (n : _) → token_number token ≡ Some n → means choice_of token ≡ false
number_no_choice token n e = grind arith

two_words : (word : List ℕ) (d : ℕ) → listed index_word dimensions word ≡ Some d → listed choice_word (Min ∷ Max ∷ []) word ≡ None
two_words word d e = grind (arith, cases_Bool, bytes_eq, bytes_eq-Decides)

index_no_choice : (token : Token) (d : ℕ) → index_of token ≡ Some d → means choice_of token ≡ false
index_no_choice token d e = grind (arith, is_some, two_words)

pub no_part : (t : Token) → level_of t < 6 → first is_same part t ≡ false
no_part t less = grind (arith, cases_Bool, part_level)

-- what holds of the tokens of the leaves holds of what begins a leaf
leaf_firsts : (P : Token → Type 0) → ((t : Token) (n : ℤ) → token_number t ≡ Some n → P t) → ((t : Token) (d : ℕ) → index_of t ≡ Some d → P t)
    → ((t : Token) (x : List ℕ) → name_of t ≡ Some x → P t) → Firsts leaf P
unfolding leaf path
leaf_firsts P number index name = ((number, tt), ((index, tt), ((name, tt), tt)))

leaf_apart : {test : Token → Bool} {some : Token} → Exact test some → token_number some ≡ None → index_of some ≡ None → name_of some ≡ None → Firsts leaf (λ t. test t ≡ false)
leaf_apart {test} exact number index name = leaf_firsts (λ t. test t ≡ false) (apart exact token_number number) (apart exact index_of index) (apart exact name_of name)

index_fine : Fine is_same (item index_of)
index_fine = (Word (codes "i0"), 0, refl)

leaf_fine : Fine is_same leaf
unfolding leaf path
leaf_fine = search (number_fine, index_fine, path_fine, name_no_index, index_no_number, name_no_number) depth 12

leaf_quiet : (t : Token) → level_of t < 6 → Quiet is_same leaf t
unfolding leaf path
leaf_quiet t less = search (path_quiet, no_part) depth 12

leaf_some : (P : Type 0) → Skips leaf P
unfolding leaf path
leaf_some P = (tt, (tt, tt))

leaf_atoms : Atoms leaf
leaf_atoms = record {
  operand = record { fine = leaf_fine; quiet = leaf_quiet; some = leaf_some ⊥ };
  no_minus = leaf_apart (exact_sign Minus) refl refl refl;
  no_not = leaf_apart (exact_word (codes "not")) refl refl refl;
}

-- in brackets an expression ends at a token that binds nothing
ends : (one : Grammar Token Value) → Operand 1 one → (t : Token) → level_of t ≡ 0 → Quiet is_same one t
ends one o t e = o.quiet t (omega (arith, e))

bracketed_fine : (one : Grammar Token Value) → Operand 1 one → Fine is_same (bracketed one)
unfolding bracketed
bracketed_fine one o = search (exact_sign, o.fine, ends one o) depth 12

choice_fine : (one : Grammar Token Value) → Operand 1 one → Fine is_same (choice one)
unfolding choice
choice_fine one o = ((Word (codes "min"), Min, refl), search (exact_sign, o.fine, ends one o) depth 12)

pub atoms : (n : ℕ) → Atoms (atom_within n)
unfolding atom_within bracketed choice
atoms zero = leaf_atoms
atoms (suc n) =
    let o = over_operand (atom_within n) (atoms n) in
    let no_choice = leaf_firsts (λ t. is_some (choice_of t) ≡ false) number_no_choice index_no_choice name_no_choice in
    record {
      operand = record {
        fine = (bracketed_fine _ o, (choice_fine _ o, leaf_fine, refl, no_choice), refl, ((apart (exact_sign OpenParen) choice_of refl, tt), leaf_apart (exact_sign OpenParen) refl refl refl));
        quiet = λ t less. search (leaf_quiet, leaf_some) depth 12;
        some = (tt, (tt, leaf_some ⊥));
      };
      no_minus = (refl, ((apart (exact_sign Minus) choice_of refl, tt), leaf_atoms.no_minus));
      no_not = (refl, ((apart (exact_word (codes "not")) choice_of refl, tt), leaf_atoms.no_not));
    }

pub expr_fine : Fine is_same expr
unfolding expr
expr_fine = ((λ n. (over_operand (atom_within n) (atoms n)).fine), (λ n m le. wider (expr_under n m le)), (λ n m le. alike (expr_under n m le)))

pub expr_quiet : (t : Token) → level_of t ≡ 0 → Quiet is_same expr t
unfolding expr
expr_quiet t e = λ n. (over_operand (atom_within n) (atoms n)).quiet t (omega (arith, e))
