-- no byte so far is shared
use Rattle.actors.proofs.Imports.{◌≡◌, ◌-◌, ◌/◌, length, range_with_len, actor_of, is_shared, first_of_all, shown_in_byte}
use Rattle.actors.proofs.cuts.first_shared.Given as goal

abbrev pub invariant-loop-byte : goal.invariant-loop-byte
invariant-loop-byte l = record {
  so_far : first_of_all (λ byte. is_shared (actor_of l.cuts) (shown_in_byte l.owners byte)) (range_with_len 0 (length l.owners / 8))
      ≡ first_of_all (λ byte. is_shared (actor_of l.cuts) (shown_in_byte l.owners byte)) (range_with_len l.byte (length l.owners / 8 - l.byte));
}
