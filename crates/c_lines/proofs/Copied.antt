-- What a copy answers, in the words of its contract.
use Rattle.c_lines.proofs.Imports.{◌≡◌, ◌∙◌, ℕ, length, Result, [], None, Some, Ok, Err, refl, IsCopied, refused_at, source_log, CopyFault, Table, answer_of, leaf_count_of, after_log, after_log-none, with_rows, alike, not_alike, Mismatch, Narrow, was_copied}
use Rattle.layout_copy.specs.declared.fault.CopyFault.TheVariants as copy

pub was_done : (source old new : Table) → IsCopied source old new (Ok tt) → Ok tt ≡ was_copied source old
unfolding with_rows
was_done source old new is =
    let held : refused_at (answer_of old) 0 source.rows ≡ None = is.1 in
    rw (alike source old is.0, held) refl

pub was_other : (source old new : Table) → IsCopied source old new (Err copy.Mismatch) → Err Mismatch ≡ was_copied source old
was_other source old new is = rw (not_alike source old is.0) refl

pub other_source : (source new : Table) (result : Result Unit CopyFault) → result ≡ Err copy.Mismatch → new ≡ after_log source (source_log (leaf_count_of source) (length source.rows) result) → new ≡ source
other_source source new result is seen =
    let none : new ≡ after_log source [] = rw is at seen in
    none ∙ after_log-none source

pub was_narrow : (source old new : Table) (row leaf : ℕ) → IsCopied source old new (Err (copy.Narrow row leaf)) → Err (Narrow row leaf) ≡ was_copied source old
unfolding with_rows
was_narrow source old new row leaf is =
    let held : refused_at (answer_of old) 0 source.rows ≡ Some (record { row = row; leaf = leaf }) = is.1 in
    rw (alike source old is.0, held) refl
