-- What this crate takes of others.
unfoldable pub use Rattle.extents.specs.Indices.{indices}
unfoldable pub use Rattle.instrument.specs.CounterTexts.{counts_text, heat_text}
pub use Rattle.instrument.specs.Counters.{HeatCounts, LeafCounts, no_counts}
pub use Rattle.layout_io.specs.Prelude.{File}
pub use Rattle.line_grammar.specs.Prelude.{Actors, Advise, Assignment, Bytes, Copy, Drop, Load, Mapping, New, Open, Relayout, Save, Sentence, Show, Value, View, deepest}
pub use Rattle.line_grammar.specs.declared.line.ShowKind.TheVariants.{Counts, Heat}
pub use Rattle.line_grammar.specs.declared.version.Version.{Version}
pub use Rattle.map_expr.specs.Terms.{Term as MapTerm}
pub use Rattle.record_dim.specs.Prelude.{Fields, Tree, greatest_in, greatest_of, kinds_of, least_in, least_of, leaves, texts_of}
pub use Rattle.record_dim.specs.Std.{arith, list_any, nat_tests}
unfoldable pub use Rattle.schema_lang.specs.LineOf.{line_of}
pub use Rattle.std.specs.Prelude.{Bool, Err, IfSome, List, None, Ok, Option, Result, Some, [], false, is_some, length, nat_eq, refl, true, ℕ, ⊤}
pub use Rattle.views.specs.Prelude.{Access, AreCounts, AreHeat, IsWide, Read, Table, Tally, Write, all_accesses, leaf_count_of, no_tally, owners_of}
unfoldable pub use Rattle.views.specs.Prelude.{tallied}
pub use Rattle.worlds.specs.Prelude.{Done, Entry, Fault, Goes, Left, OnView, Outcome, Tested, Unread, World, added, does, each, empty, fails_at, found, known, nameless, prepend, refused_if, removed}
pub use Rattle.worlds.specs.Prelude.{replaced, run_from, same_name, some_or, sure, work_of, ◌>>=◌}
unfoldable pub use Rattle.worlds.specs.Prelude.{step}
pub use Rattle.worlds.specs.declared.fault.CommandFault.{CommandFault}
pub use Rattle.worlds.specs.declared.fault.CommandFault.TheVariants.{BadMapping, Mismatch, Narrow, NotCounted, Taken, TooBig, TooManyViews, Unknown}
pub use Rattle.worlds.specs.declared.fault.UnknownName.TheVariants.{Name}
