use Rattle.c_lines.proofs.Lemmas.{rules, ◌≡◌, ◌∙◌, ◌*◌, ℕ, refl, subst, map, option_map, assignment_of, number_text, is_do, numbered, alone, Carried, fit_stencil, stencil_left, live_bits, updated_by_actors, stencil_run, bytes_in, alone_bits, actors_does, actors_not, line_does}
use Rattle.expr_lang.specs.Prelude.{term_of}
use Rattle.c_lines.proofs.commands.do_rounds.Goals as goal

pub returns-in-Stencil : goal.returns-in-Stencil
returns-in-Stencil g c =
    let table = c.args.view.now in
    let live : 8 * c.from-live.result ≡ live_bits (alone c.in-Stencil.view table).views = rw c.from-live.ensures (c.blob_bytes.ensures.sum ∙ alone_bits c.in-Stencil.view table) in
    line_does number_text numbered is_do c.args.line.now _ (λ shown. stencil_run (live_bits (alone c.in-Stencil.view table).views) shown c.in-Stencil.window c.in-Stencil.path c.in-Stencil.terms c.in-Stencil.divisor c.in-Stencil.rounds) table c.changed.new.view c.changed.result c.in-Stencil.is refl refl
    (subst (λ (bits : ℕ). Carried number_text (stencil_run bits table c.in-Stencil.window c.in-Stencil.path c.in-Stencil.terms c.in-Stencil.divisor c.in-Stencil.rounds)
    (λ row. stencil_left table c.in-Stencil.rounds (fit_stencil table c.in-Stencil.window c.in-Stencil.path c.in-Stencil.terms c.in-Stencil.divisor c.in-Stencil.rounds)) table c.changed.result c.changed.new.view) live c.changed.ensures)

pub returns-in_ok-told_by-in-Actors : goal.returns-in_ok-told_by-in-Actors
returns-in_ok-told_by-in-Actors g c =
    actors_does bytes_in c.args.line.now _ is_do (λ table. updated_by_actors table (option_map term_of c.in-Actors.filter) (map assignment_of c.in-Actors.sets) c.in-Actors.cuts c.in-Actors.seed c.in-Actors.turns) c.args.view.now c.told_by.new.view c.in_ok-told_by-in-Actors.field-0 c.in-Actors.is refl refl c.in_ok-told_by-in-Actors.ensures

pub returns-in_err-told_by-in-Actors : goal.returns-in_err-told_by-in-Actors
returns-in_err-told_by-in-Actors g c =
    actors_not c.args.line.now _ is_do (λ table. updated_by_actors table (option_map term_of c.in-Actors.filter) (map assignment_of c.in-Actors.sets) c.in-Actors.cuts c.in-Actors.seed c.in-Actors.turns) c.args.view.now c.told_by.new.view c.in_err-told_by-in-Actors.field-0.0 _ (search rules) c.in-Actors.is refl refl
    c.in_err-told_by-in-Actors.ensures.0 c.in_err-told_by-in-Actors.ensures.1
