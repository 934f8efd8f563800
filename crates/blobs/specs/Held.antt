-- The memory of a blob.
use Rattle.std.specs.Prelude.{◌≡◌}
use Rattle.core.specs.Mem.Slots.{slots_ptr, slots_len}
use Rattle.core.specs.declared.slots.Slots.{Slots}
use Rattle.blobs.specs.declared.lease.Lease.{Lease}

-- the right to free the memory of these places, as this allocator has it
abbrev pub IsLeaseOf : {Item Heap : Type 0} → Lease Item Heap → Slots Item → Heap → Type 0
IsLeaseOf lease places heap = (lease.ptr ≡ slots_ptr places) × (lease.len ≡ slots_len places) × (lease.alloc ≡ heap)
