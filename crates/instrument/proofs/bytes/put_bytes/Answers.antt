use Rattle.instrument.proofs.Imports.{rules, arith, ◌≡◌, ◌<◌, ◌∙◌, ℕ, length, sym, ap, subst, List, flat_map, take, ◌++◌, ◌+◌, Err, refl, enumerate_from, Puts-loop_err, Puts-loop_ok, Puts-append, bits_of, Puts, HasPut, flat_map_push, Failed, bytes_of, byte_text, common_steps}
use Rattle.instrument.proofs.Entries.{byte_entry, entry_within, entries_over}
use Rattle.instrument.proofs.bytes.put_bytes.Goals as goal

pub returns-in_err-put_byte : goal.returns-in_err-put_byte
returns-in_err-put_byte g c =
    let bytes = c.args.blob.now in
    let small : c.loop-at.at < length bytes = omega arith in
    let entry = byte_entry bytes c.loop-at.at c.get.result small (search rules) c.get.ensures in
    let stop = subst (λ (e : ℕ × ℕ). Puts {T = Unit {0}} {E = Failed} g.K.Sink.taken g.K.Sink.faults c.loop-at.sink c.put_byte.new.sink c.loop-at.buffer c.put_byte.new.buffer (Err c.in_err-put_byte.field-0.0) (byte_text e)) (sym entry) c.in_err-put_byte.ensures in
    Puts-loop_err c.from_residual.result byte_text (enumerate_from 0 (bytes_of (bits_of bytes))) c.loop-at.at (0, 0) (entry_within bytes c.loop-at.at small) (search rules) c.loop-at.invariant stop

pub loop-at-preserved : goal.loop-at-preserved
loop-at-preserved g c =
    let bytes = c.args.blob.now in
    let small : c.loop-at.at < length bytes = omega arith in
    let entry = byte_entry bytes c.loop-at.at c.get.result small (search rules) c.get.ensures in
    let text : flat_map byte_text (take c.loop-at.at (enumerate_from 0 (bytes_of (bits_of bytes)))) ++ byte_text (c.loop-at.at, c.get.result) ≡ flat_map byte_text (take (c.loop-at.at + 1) (enumerate_from 0 (bytes_of (bits_of bytes)))) =
    ap (λ (e : ℕ × ℕ). flat_map byte_text (take c.loop-at.at (enumerate_from 0 (bytes_of (bits_of bytes)))) ++ byte_text e) (sym entry) ∙ flat_map_push byte_text (enumerate_from 0 (bytes_of (bits_of bytes))) c.loop-at.at (0, 0) (entry_within bytes c.loop-at.at small) in
    let put : HasPut g.K.Sink.taken g.K.Sink.faults c.loop-at.sink c.put_byte.new.sink c.loop-at.buffer c.put_byte.new.buffer (byte_text (c.loop-at.at, c.get.result)) =
    record { gathers = c.in_ok-put_byte.ensures.gathers; bound = c.in_ok-put_byte.ensures.bound; fits = λ small. (refl, (c.in_ok-put_byte.ensures.fits small).1, (c.in_ok-put_byte.ensures.fits small).2); stopped = tt } in
    subst (λ (t : List ℕ). HasPut g.K.Sink.taken g.K.Sink.faults c.args.sink.now c.put_byte.new.sink c.args.buffer.now c.put_byte.new.buffer t) text (Puts-append c.loop-at.invariant put)

pub returns : goal.returns
returns g c = grind (arith, common_steps, Puts-loop_ok, enumerate_from, entries_over)
