-- The world that a session stands for.
use Rattle.std.specs.Prelude.{◌≡◌, List, [], map}
use Rattle.session.specs.Imports.{World, Left, record_of, mapping_of, view_of, RecordEntry, ViewEntry, MappingEntry}
use Rattle.session.specs.declared.session.Session.{Session}

-- the world of these records, mappings and views
abbrev pub world_in : List RecordEntry → List MappingEntry → List ViewEntry → World
world_in records mappings views = record { records = map record_of records; mappings = map mapping_of mappings; views = map view_of views }

-- the session holds what is in the world, in the same order
abbrev pub world_of : Session → World
world_of session = world_in session.records session.mappings session.views.items

abbrev pub Stands : Session → World → Type 0
Stands session world = world_of session ≡ world

-- what a command leaves that writes nothing
abbrev pub left_of : Session → Left
left_of session = record { held = world_of session; text = [] }

-- beside these records and mappings, the views are those that are left
abbrev pub AreLeft : List RecordEntry → List MappingEntry → List ViewEntry → Unit {0} → World → Type 0
AreLeft records mappings views done world = world_in records mappings views ≡ world
