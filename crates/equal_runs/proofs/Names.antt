-- A mapping expression is refused for a name alone.
use Rattle.equal_runs.proofs.Imports.{ℕ, true, List, Option, Some, None, refl, MapTerm, Split, Byteswap, Bytesplit, Change, Count, Heat, Entry, found, some_or, nameless, Unknown, Name, arith}
use Rattle.map_expr.specs.Terms.{Named}
use Rattle.equal_runs.proofs.Agreeing.{Told, goes, told, Any, told_bind}

known_told : {A : Type 0} (name : List ℕ) (x : Option A) → Told true Any (some_or (Unknown (Name name)) x)
known_told name None = told (Unknown (Name name)) refl
known_told name (Some a) = goes a tt

pub nameless_told : (mappings : List (Entry MapTerm)) (term : MapTerm) → Told true Any (nameless mappings term)
nameless_told mappings (Split path first rest) = grind (arith, told_bind, goes, (nameless_told mappings first), (nameless_told mappings rest))
nameless_told mappings (Byteswap inner) = told_bind true Any Any (nameless mappings inner) _ (nameless_told mappings inner) (λ a p. goes (Byteswap a) tt)
nameless_told mappings (Bytesplit inner) = told_bind true Any Any (nameless mappings inner) _ (nameless_told mappings inner) (λ a p. goes (Bytesplit a) tt)
nameless_told mappings (Change from to inner) = told_bind true Any Any (nameless mappings inner) _ (nameless_told mappings inner) (λ a p. goes (Change from to a) tt)
nameless_told mappings (Count inner) = told_bind true Any Any (nameless mappings inner) _ (nameless_told mappings inner) (λ a p. goes (Count a) tt)
nameless_told mappings (Heat granule inner) = told_bind true Any Any (nameless mappings inner) _ (nameless_told mappings inner) (λ a p. goes (Heat granule a) tt)
nameless_told mappings (Named name) = known_told name (found name mappings)
nameless_told mappings base = goes base tt
