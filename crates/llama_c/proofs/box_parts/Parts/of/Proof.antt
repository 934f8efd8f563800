-- `of` takes the box apart by the call of std, and its parts own what the box owned.
use Rattle.llama_c.proofs.BoxWalks.{◌≡◌, refl, ap, ◌∙◌, List, [], ◌∷◌, ◌++◌, Fn, Args, a_type, dcons, dnil, inst_fn, bare, Val, vstruct, of_list, id⊢, never, fst∗, ftrue, fsep, WpFn, sem, fact, tables, ‵, raw, ◌⊛◌, some, later, prop, ◌$◌, ◌∵◌, !, qed, move, drop, use1, join, split, split3, pick, rewrite, regoal, fsplit, fjoin, fpick, feq_l, suffices, await, done, whole, sub, agg, stop, fld, no_more, and_then, of_opd, returns, enter, alloc_all, pass_all, free_all, look_at, get, get_in, sets, lands_as, no, bounded, Ptr, RawPtr, block_ptr, null_ptr, ptr_val, in_a_block, plain, heard, nothing, only, Tuple, calls_at, triple_of, framed, says, Stays, stay_dropped, walk_of, ends_at, token, handle_tells, Goes-blank, proved_at, box_owns, Bx, D, τ, R, P, B, word, box_typed, box_out, box_in, tokens, alive}
use Rattle.llama_c.specs.contracts.box_parts.Parts as parts
use Rattle.llama_c.specs.contracts.box_parts.Parts.of as f
use Rattle.llama_c.proofs.box_parts.Parts.of.Statement.{statement}
use Rattle.llama_c.proofs.box_parts.Parts.of.Code as code
use Rattle.std.specs.contracts.boxed.Box.into_raw_with_allocator as g
use Rattle.std.proofs.boxed.Box.into_raw_with_allocator.Met.{met}

pub of_spec : {M : Type 1} → statement M
of_spec 𝓤 𝓛 𝓜 𝓡 wired X Z LX LZ γ d dd dx allocator drops glue =
    let E : Bx = record { row = X; laws = LX; al = record { row = Z; laws = LZ; g = γ; d = d; drops = dd } } in
    let given : Args = bounded (a_type ∷ a_type ∷ []) (X, (Z, tt)) (dcons d (dcons dd (dcons dx dnil))) in
    let fn : Fn = inst_fn given code.function in
    let T = f.ended X Z γ d dd dx in
    let stayed : Stays T.signature.params T.kept = (stay_dropped (plain (λ _. B E)) no, tt) in
    let c = f.clauses X Z γ d dd dx 𝓛 𝓜.mem 𝓡.returns in let W = walk_of 𝓛 T stayed c in let 𝓣 = tables 𝓤 𝓛.H 𝓜 𝓡 𝓡.env in
    let G = triple_of 𝓛 (g.signature X Z γ d dd dx) (g.spec X Z γ d dd dx 𝓛 𝓜.mem 𝓡.returns) in
    let Made = parts.the_row (R E) (P E) γ in
    proved_at 𝓛 T stayed c 𝓜 𝓡 (Goes-blank 𝓛 2 (plain (λ _. B E)) no (λ κs x w. tt), tt)
    (f.Key.name given) fn (code.unfolded 𝓤 𝓛.H 𝓜 𝓡 wired (X, (Z, tt)) d dd dx) (λ y are.
    let κs = y.0.0 in let qs = y.0.1 in let box = y.0.3.0 in let a = box.alloc in let us = y.0.4.0 in
    qed 𝓛 ((tokens E 𝓤 κs qs ⊛ ‵ (fsep ((B E).own_val box us) ftrue)) ∷ alive E 𝓤 κs ∷ []) ∵ split ! $ move ! (1 ∷ []) $ fsplit ! $
    box_out E ! box us (λ b o hv at is fits. box_in E ! box b o box.value at refl $
    let w = word E hv b o in
    let z : G.Ghost = ((κs, qs, tt, (box, tt), (w ∷ [], tt)), tt) in
    regoal ! (λ (vs : List Val). prop (WpFn 𝓤 𝓛.H 𝓣.C 𝓣.Λ fn (vs ++ []) (W.post y))) is refl $
    enter ! _ _ _ _ _ $ alloc_all ! (λ ls. pass_all ! refl (box_typed E hv b o fits, tt) $
    sets ! (of_opd ! (get ! refl)) refl (box_typed E hv b o fits) $
    -- [the box; true; the tokens; how long they live]
    fjoin ! $ move ! (1 ∷ 0 ∷ []) $ join ! $ join ! $ use1 𝓛 (raw (G.pre z)) (id⊢ 𝓤 _) $
    calls_at ! (framed 𝓤 𝓛.H 𝓜 𝓣) G (met 𝓤 𝓛 𝓜 𝓡 (code.calls-std_alloc::boxed::Box::into_raw_with_allocator 𝓡.env wired) X Z LX LZ γ d dd dx allocator drops glue) z
    (and_then ! (get ! refl) (no_more !)) (λ v.
    use1 𝓛 (later (some (λ (r : Ptr × Z.Denot). (tokens E 𝓤 κs qs ⊛ ‵ ((Tuple (RawPtr ∷ P E ∷ [])).own_val r (v ∷ [])))
    ⊛ some (λ (_ : (Unit {0} × (Unit {0} × Unit {0})) × Unit {0}). ‵ (fsep (fsep ftrue (fsep ftrue ftrue)) ftrue) ⊛ (raw (fact 𝓤 (r.1 ≡ a)) ⊛ ‵ (box_owns (token E.al a) (R E) r.0 box.value)))))) (id⊢ 𝓤 _) $
    await ! tt $ pick ! (λ r. split ! $ move ! (1 ∷ []) $ pick ! (λ _. split3 ! $ drop ! $ heard ! (r.1 ≡ a) (λ same.
    in_a_block ! r.0 (λ p. box_owns (token E.al a) (R E) p box.value) (fst∗ 𝓤 (never 𝓤) (sem 𝓛 (token E.al a (bare (τ E)) null_ptr))) (λ b' o' at'.
    move ! (1 ∷ []) $ split ! $ move ! (1 ∷ []) $ fpick ! (λ parts. fsplit ! $ feq_l ! (λ pair. fsplit ! $ feq_l ! (λ first. fsplit ! $
    rewrite ! 0 (λ (h : Z.Denot). ‵ (Z.own_val h parts.1.0)) same refl $ handle_tells E.al ! a parts.1.0 (λ hv' second fits'.
    -- [the handle; true; the tokens; what the box owns]
    let w' = word E hv' b' o' in
    let whole_of = λ (ps hs : List Val). vstruct (of_list (ps ++ (hs ++ []))) ∷ [] in
    lands_as ! (ap only (pair ∙ (ap (λ (ps : List Val). whole_of ps parts.1.0) (first ∙ ap (λ (p : Ptr). ptr_val p ∷ []) at') ∙ ap (λ (hs : List Val). whole_of (ptr_val (block_ptr b' o') ∷ []) hs) second))) refl (box_typed E hv' b' o' fits') $
    sets ! (of_opd ! (get_in ! (fld ! refl (stop !)) (sub ! 0 refl (whole !)))) refl (tt, tt) $
    sets ! (of_opd ! (get_in ! (fld ! refl (stop !)) (sub ! 1 refl (whole !)))) refl fits' $
    sets ! (of_opd ! (get ! refl)) refl fits' $
    sets ! (agg ! (and_then ! (get ! refl) (and_then ! (get ! refl) (no_more !)))) refl (box_typed E hv' b' o' fits') $
    returns ! (look_at ! 0 refl) $ free_all ! refl $ move ! (3 ∷ []) $ fsplit ! $
    let made : Made.Denot = record { ptr = block_ptr b' o'; alloc = a; value = box.value } in
    let again : D E = record { ptr = block_ptr b' o'; alloc = a; value = box.value } in
    box_in E ! again b' o' box.value refl refl $ use1 𝓛 (‵ (Made.own_val made (w' ∷ []))) (id⊢ 𝓤 _) $ move ! (1 ∷ []) $ drop ! $
    suffices ! _ (ends_at 𝓛 T stayed c y w' made ((tt, (tt, tt)), tt) (tt, tt)) $ says ! refl $
    nothing ! $ nothing ! $ fjoin ! $ join ! $ move ! (1 ∷ 0 ∷ []) $ join ! $ done !))))))))))))
