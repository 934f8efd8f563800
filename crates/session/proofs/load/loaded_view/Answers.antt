use Rattle.session.proofs.Lemmas.{rules, ◌≡◌, ◌∙◌, ◌^◌, ℕ, false, List, Some, New, Table, loaded_table, read, ◌>>=◌, Named, named, World, goes_then, named_of, new_of, filled_table, world_in, Ok, refl, ap, sure, IsOf, within_first, before_reading, told_of, loads_of, unloads_of, unread_of, unread_test, unread_gives}
use Rattle.worlds.specs.Prelude.{loaded}
use Rattle.session.proofs.load.loaded_view.Goals as goal

-- behind the tests of its words a table is that of the bytes of its file
reads : (world : World) (new : New) (file : List ℕ) (whole : Named) → named world new ≡ Ok whole → IsOf (2 ^ 28) file (filled_table world.views whole new.words) (loaded_table world new file)
unfolding loaded_table loaded
reads world new file whole goes = record {
  is = λ files unread. goes_then (sure (named world new)) (λ (w : Named). read files unread file >>= (λ bytes. sure (loaded world.views w new.words bytes))) whole (ap sure goes)
      ∙ within_first (2 ^ 28) (read files unread file) (filled_table world.views whole new.words);
}

pub returns-in_err-found-clause-loads : goal.returns-in_err-found-clause-loads
unfolding loaded_table
returns-in_err-found-clause-loads g c = λ files told.
    let world = world_in c.args.records.now c.args.mappings.now c.args.views.now in
    let next = λ (w : Named). read files false c.args.file.now >>= (λ bytes. sure (loaded world.views w c.args.new.now.words.now bytes)) in
    let fault = c.in_err-found.field-0.0 in
    before_reading c.args.file.now (λ (view : Table). view) (loaded_table world (new_of c.args.new.now) c.args.file.now files) (named world (new_of c.args.new.now)) next _ fault c.from_residual.result refl (search rules) c.in_err-found.ensures.named

pub returns-in_err-bytes-clause-loads : goal.returns-in_err-bytes-clause-loads
returns-in_err-bytes-clause-loads g c = λ files given.
    let of_file = reads (world_in c.args.records.now c.args.mappings.now c.args.views.now) (new_of c.args.new.now) c.args.file.now (named_of c.in_ok-found.found) c.in_ok-found.ensures.named in
    unloads_of (λ (view : Table). view) files _ c.in_err-bytes.field-0.0 _ of_file (search rules) (c.in_err-bytes.ensures.loads files (told_of _ files of_file given))

pub returns-clause-loads : goal.returns-clause-loads
returns-clause-loads g c = λ files given.
    let of_file = reads (world_in c.args.records.now c.args.mappings.now c.args.views.now) (new_of c.args.new.now) c.args.file.now (named_of c.in_ok-found.found) c.in_ok-found.ensures.named in
    loads_of (λ (view : Table). view) files c.in_ok-bytes.bytes _ c.filled_view.result of_file (c.in_ok-bytes.ensures.loads files (told_of _ files of_file given)) (rw c.as_slice.ensures at c.filled_view.ensures)

pub returns-in_err-found-clause-unread : goal.returns-in_err-found-clause-unread
returns-in_err-found-clause-unread g c = unread_test (Some c.args.file.now) _ (loaded_table (world_in c.args.records.now c.args.mappings.now c.args.views.now) (new_of c.args.new.now) c.args.file.now) c.in_err-found.field-0.0 c.from_residual.result (search rules) c.in_err-found.ensures.named

pub returns-in_err-bytes-clause-unread : goal.returns-in_err-bytes-clause-unread
returns-in_err-bytes-clause-unread g c =
    unread_of Table c.in_err-bytes.field-0.0 _ (reads (world_in c.args.records.now c.args.mappings.now c.args.views.now) (new_of c.args.new.now) c.args.file.now (named_of c.in_ok-found.found) c.in_ok-found.ensures.named) (search rules)

pub returns-clause-unread : goal.returns-clause-unread
returns-clause-unread g c = unread_gives (Some c.args.file.now) (λ (view : Table). view) _ (loaded_table (world_in c.args.records.now c.args.mappings.now c.args.views.now) (new_of c.args.new.now) c.args.file.now) c.filled_view.result c.filled_view.ensures
