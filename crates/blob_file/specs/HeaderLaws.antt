-- Mappings without names.
use Rattle.std.specs.Prelude.{◌≡◌, true}
use Rattle.blob_file.specs.Imports.{false≢true, and_parts, Term, Split, Byteswap, Bytesplit, Change, Count, Heat, Named, IsBuiltTerm}
use Rattle.blob_file.specs.Headers.{is_nameless}

-- they have a layout
pub nameless_built : (term : Term) → is_nameless term ≡ true → IsBuiltTerm term
nameless_built (Split path first rest) e =
    let names = and_parts (is_nameless first) (is_nameless rest) e in
    (nameless_built first names.0, nameless_built rest names.1)
nameless_built (Byteswap inner) e = nameless_built inner e
nameless_built (Bytesplit inner) e = nameless_built inner e
nameless_built (Change from to inner) e = nameless_built inner e
nameless_built (Count inner) e = nameless_built inner e
nameless_built (Heat granule inner) e = nameless_built inner e
nameless_built (Named name) e = absurd (false≢true e)
nameless_built other e = tt
