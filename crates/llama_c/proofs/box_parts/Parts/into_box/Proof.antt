-- `into_box` hands what the parts own to the call of std that makes a box of a pointer.
use Rattle.llama_c.proofs.BoxWalks.{◌≡◌, refl, sym, subst, ap, List, [], ◌∷◌, ◌++◌, T, Fn, Args, a_type, dcons, dnil, inst_fn, Val, vptr, has_ty, WT, id⊢, ftrue, fsep, WpFn, fact, tables, ‵, raw, ◌⊛◌, some, later, prop, at_ret, ◌$◌, ◌∵◌, !, qed, move, drop, use1, join, split, split3, pick, rewrite, regoal, fsplit, fjoin, feq_i, suffices, await, done, whole, sub, stop, fld, no_more, and_then, of_opd, returns, enter, first, blocks, exec, alloc_all, pass_all, free_all, look_at, get, get_in, sets, lands_last, env, no, bounded, block_ptr, plain, heard, nothing, only, calls_at_last, triple_of, framed, says, Stays, stay_dropped, walk_of, ends_at, Goes-blank, proved_at, Bx, D, R, P, B, word, box_typed, box_out, box_in, tokens, alive}
use Rattle.llama_c.proofs.Imports.{box_ty, after, met}
use Rattle.llama_c.specs.contracts.box_parts.Parts as parts
use Rattle.llama_c.specs.contracts.box_parts.Parts.into_box as f
use Rattle.llama_c.proofs.box_parts.Parts.into_box.Statement.{statement}
use Rattle.llama_c.proofs.box_parts.Parts.into_box.Code as code
use Rattle.std.specs.contracts.boxed.Box.from_raw as g

pub into_box_spec : {M : Type 1} → statement M
into_box_spec 𝓤 𝓛 𝓜 𝓡 wired X Z LX LZ γ d dd allocator drops =
    let E : Bx = record { row = X; laws = LX; al = record { row = Z; laws = LZ; g = γ; d = d; drops = dd } } in
    let given : Args = bounded (a_type ∷ a_type ∷ []) (X, (Z, tt)) (dcons d (dcons dd dnil)) in
    let fn : Fn = inst_fn given code.function in
    let From = parts.the_row (R E) (P E) γ in
    let F = f.ended X Z γ d dd in
    let stayed : Stays F.signature.params F.kept = (stay_dropped (plain (λ _. From)) no, tt) in
    let c = f.clauses X Z γ d dd 𝓛 𝓜.mem 𝓡.returns in let W = walk_of 𝓛 F stayed c in let 𝓣 = tables 𝓤 𝓛.H 𝓜 𝓡 𝓡.env in
    let G = triple_of 𝓛 (g.signature X Z γ d dd) (g.spec X Z γ d dd 𝓛 𝓜.mem 𝓡.returns) in
    proved_at 𝓛 F stayed c 𝓜 𝓡 (Goes-blank 𝓛 2 (plain (λ _. From)) no (λ κs x w. tt), tt)
    (f.Key.name given) fn (code.unfolded 𝓤 𝓛.H 𝓜 𝓡 wired (X, (Z, tt)) d dd) (λ y are.
    let κs = y.0.0 in let qs = y.0.1 in let self = y.0.3.0 in let a = self.alloc in let x = self.value in let us = y.0.4.0 in
    let box : D E = record { ptr = self.ptr; alloc = a; value = x } in
    qed 𝓛 ((tokens E 𝓤 κs qs ⊛ ‵ (fsep ((B E).own_val box us) ftrue)) ∷ alive E 𝓤 κs ∷ []) ∵ split ! $ move ! (1 ∷ []) $ fsplit ! $
    box_out E ! box us (λ b o hv at is fits. fjoin ! $
    -- [what the box owns; the handle; true; the tokens; how long they live]
    let w = word E hv b o in
    let z : G.Ghost = ((κs, qs, tt, (a, (block_ptr b o, tt)), (hv ∷ [], (vptr b o ∷ [], tt))), x) in
    regoal ! (λ (vs : List Val). prop (WpFn 𝓤 𝓛.H 𝓣.C 𝓣.Λ fn (vs ++ []) (W.post y))) is refl $
    enter ! _ _ _ _ _ $ alloc_all ! (λ ls. pass_all ! refl (box_typed E hv b o fits, tt) $
    sets ! (of_opd ! (get_in ! (fld ! refl (stop !)) (sub ! 0 refl (whole !)))) refl (tt, tt) $
    sets ! (of_opd ! (get_in ! (fld ! refl (stop !)) (sub ! 1 refl (whole !)))) refl fits $
    first ! $ blocks ! $ sets ! (of_opd ! (get ! refl)) refl fits $
    move ! (4 ∷ []) $ split3 ! $ move ! (2 ∷ []) $ drop ! $
    -- [two facts; what the box owns; the handle; true; the tokens]
    move ! (1 ∷ 2 ∷ []) $ join ! $ move ! (1 ∷ 0 ∷ []) $ join ! $ move ! (2 ∷ []) $
    feq_i ! (List Val) (vptr b o ∷ []) (vptr b o ∷ []) refl $ fjoin ! $ move ! (2 ∷ 0 ∷ []) $ fjoin ! $ move ! (2 ∷ 0 ∷ []) $ join ! $ join ! $ use1 𝓛 (raw (G.pre z)) (id⊢ 𝓤 _) $
    calls_at_last ! (framed 𝓤 𝓛.H 𝓜 𝓣) G (met 𝓤 𝓛 𝓜 𝓡 (code.calls-std_alloc::boxed::Box::from_raw 𝓡.env wired) X Z LX LZ γ d dd allocator drops) z
    (and_then ! (get ! refl) (and_then ! (get ! refl) (no_more !))) (λ v.
    use1 𝓛 (later (some (λ (r : D E). (tokens E 𝓤 κs qs ⊛ ‵ ((B E).own_val r (v ∷ [])))
    ⊛ some (λ (_ : Unit {0} × (Unit {0} × Unit {0})). ‵ (fsep ftrue (fsep ftrue ftrue)) ⊛ (raw (fact 𝓤 (r.value ≡ x)) ⊛ raw (fact 𝓤 (r.alloc ≡ a))))))) (id⊢ 𝓤 _) $
    await ! tt $ pick ! (λ r. split ! $ move ! (1 ∷ []) $ pick ! (λ _. split3 ! $ drop ! $ heard ! (r.value ≡ x) (λ same. drop ! $ split ! $ move ! (1 ∷ []) $
    box_out E ! r (v ∷ []) (λ b' o' hv' at' is' fits'. box_in E ! r b' o' r.value at' refl $
    rewrite ! 0 (λ (vs : List Val). ‵ ((B E).own_val r vs)) (sym is') refl $
    let typed : T (has_ty (box_ty E) v) × WT v = subst (λ (u : Val). T (has_ty (box_ty E) u) × WT u) (sym (ap only is')) (box_typed E hv' b' o' fits') in
    lands_last ! refl typed $ exec ! 𝓣.C 𝓣.Λ (env fn.locals ls) (after 3 fn.body) (at_ret (env fn.locals ls) (W.post y)) $
    sets ! (of_opd ! (get ! refl)) refl typed $ returns ! (look_at ! 0 refl) $ free_all ! refl $
    -- [the box; true; the tokens]
    suffices ! _ (ends_at 𝓛 F stayed c y v r ((tt, (tt, tt)), tt) (tt, tt)) $ says ! same $
    nothing ! $ nothing ! $ fjoin ! $ join ! $ move ! (1 ∷ 0 ∷ []) $ join ! $ done !))))))))
