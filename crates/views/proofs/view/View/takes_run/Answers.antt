use Rattle.views.proofs.Lemmas.{◌≡◌, ◌<◌, ℕ, true, pos, get_or, length, hold_at, Fits, kind_at, arith, some_seen, shown_there, leaves_there, fit_answer}
use Rattle.views.proofs.view.View.takes_run.Goals as goal

pub are_taken-requires : goal.are_taken-requires
are_taken-requires c = omega (arith, c.requires, leaves_there c.self.invariant.1 c.self.view_is c.self.invariant.0)

pub returns : goal.returns
returns c =
    let fits = λ (taken : c.are_taken.result ≡ true).
    shown_there c.self.invariant.1 c.self.view_is c.self.invariant.0 (λ l n ks hs. (k : ℕ) → k < length c.args.values.now → Fits (kind_at ks c.args.leaf) (hold_at hs c.args.leaf) (get_or c.args.values.now k (pos 0))) (c.are_taken.ensures taken) in
    record {
      taken = λ taken k l. fit_answer c.args.self.now c.args.leaf (get_or c.args.values.now k (pos 0)) (some_seen c.self.invariant.1 c.self.view_is c.args.leaf c.requires) (fits taken k l);
      fits = fits;
    }
