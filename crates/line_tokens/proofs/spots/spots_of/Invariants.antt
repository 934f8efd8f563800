use Rattle.record_dim.specs.Std.{◌-◌, ◌≤◌, ◌++◌, List, length}
use Rattle.line_tokens.specs.Spots.{Spots}
use Rattle.line_tokens.specs.declared.spots.Spot.{Spot}
use Rattle.line_tokens.proofs.spots.spots_of.Given as goal

-- what is read on is read on behind what was found
abbrev pub invariant-loop-spots : goal.invariant-loop-spots
invariant-loop-spots l = record {
  within : l.at ≤ length l.text;
  few : l.brackets ≤ 64;
  found : (rest : List Spot) → Spots l.text l.at l.brackets rest → Spots l.text 0 0 (l.spots ++ rest);
}

abbrev pub decreases-loop-spots : goal.decreases-loop-spots
decreases-loop-spots l = length l.text - l.at
