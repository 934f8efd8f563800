use Rattle.schema_lang.proofs.Imports.{◌≡◌, true, false, codes, sym, ◌∙◌, is_word}
use Rattle.schema_lang.proofs.VersionLaws.{no_version, no_second, no_number, no_third, numbered}
use Rattle.schema_lang.proofs.version.version_of.Goals as goal

pub returns-then-not-is_word : goal.returns-then-not-is_word
returns-then-not-is_word c =
    let other : is_word (codes "version") c.in_ok-word.word ≡ false = sym c.is_word.ensures ∙ c.if-not-is_word.true in
    sym (no_version c.args.text.now c.in_ok-word.word c.in_ok-word.behind (sym c.in_ok-word.ensures.token) other)

pub returns-in_err-count : goal.returns-in_err-count
returns-in_err-count c =
    let named : is_word (codes "version") c.in_ok-word.word ≡ true = sym c.is_word.ensures ∙ c.if-not-is_word.false in
    c.from_residual-in_err-count.ensures ∙ sym (no_second c.args.text.now c.in_ok-word.word c.in_ok-word.behind (sym c.in_ok-word.ensures.token) named (sym c.in_err-count.ensures.token))

pub returns-in_err-number : goal.returns-in_err-number
returns-in_err-number c =
    let named : is_word (codes "version") c.in_ok-word.word ≡ true = sym c.is_word.ensures ∙ c.if-not-is_word.false in
    c.from_residual-in_err-number.ensures
    ∙ sym (no_number c.args.text.now c.in_ok-word.word c.in_ok-word.behind c.in_ok-count.count c.in_ok-count.behind (sym c.in_ok-word.ensures.token) named (sym c.in_ok-count.ensures.token)
    (sym c.in_err-number.ensures))

pub returns-then-is_end : goal.returns-then-is_end
returns-then-is_end c =
    let named : is_word (codes "version") c.in_ok-word.word ≡ true = sym c.is_word.ensures ∙ c.if-not-is_word.false in
    sym (numbered c.args.text.now c.in_ok-word.word c.in_ok-word.behind c.in_ok-count.count c.in_ok-count.behind c.in_ok-number.number (sym c.in_ok-word.ensures.token) named
    (sym c.in_ok-count.ensures.token) (sym c.in_ok-number.ensures) (sym c.is_end.ensures ∙ c.if-is_end.true))

pub returns-else-is_end : goal.returns-else-is_end
returns-else-is_end c =
    let named : is_word (codes "version") c.in_ok-word.word ≡ true = sym c.is_word.ensures ∙ c.if-not-is_word.false in
    sym (no_third c.args.text.now c.in_ok-word.word c.in_ok-word.behind c.in_ok-count.count c.in_ok-count.behind c.in_ok-number.number (sym c.in_ok-word.ensures.token) named
    (sym c.in_ok-count.ensures.token) (sym c.in_ok-number.ensures) (sym c.is_end.ensures ∙ c.if-is_end.false))
