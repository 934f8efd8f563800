-- `print V window [..]` writes the rows whose index a window holds.
use Rattle.std.specs.Prelude.{◌&&◌, ◌∷◌}
use Rattle.worlds.specs.Imports.{ℕ, Bool, true, false, not, nat_le, List, [], length, Ok, print_text, Span, texts_of, leaves, WindowOf, sub_table, sub_reads}
use Rattle.worlds.specs.OnView.{Content, Told}
use Rattle.worlds.specs.Outcomes.{Tested, ◌>>=◌, refused_if}
use Rattle.worlds.specs.declared.fault.CommandFault.TheVariants.{BadWindow}

-- a span for each extent, which ends neither before it begins nor outside the extent
abbrev pub are_inside : List ℕ → List Span → Bool
are_inside [] [] = true
are_inside (extent ∷ extents) (span ∷ spans) = (nat_le span.from span.end && nat_le span.end extent) && are_inside extents spans
are_inside _ _ = false

-- the window of spans
abbrev pub windowed : List ℕ → List Span → Tested WindowOf
windowed extents spans = do
  inside ← refused_if (not (are_inside extents spans)) BadWindow
  Ok (extents, spans)

-- each value of the window is read once
unfoldable pub print_window : Content → List Span → Tested Told
print_window content spans = do
  window ← windowed content.extents spans
  Ok (record {
    log = sub_reads window (length (leaves content.fields));
    text = print_text (texts_of content.fields) (sub_table window content.rows);
  })
