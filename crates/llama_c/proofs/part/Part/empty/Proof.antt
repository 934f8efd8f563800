-- `empty` packs a pointer and the handle, and owns nothing behind the pointer.
use Rattle.llama_c.proofs.PartWalks.{None, refl, List, [], ◌∷◌, ◌++◌, Val, emp, ftrue, fsep, WpFn, tables, ‵, raw, ◌⊛◌, prop, ◌$◌, ◌∵◌, !, qed, move, drop, use1, join, split, regoal, fsplit, fjoin, suffices, done, agg, no_more, and_then, returns, enter, alloc_all, pass_all, free_all, look_at, get, sets, yes, plain, nothing, says, Stays, stay_dropped, walk_of, ends_at, Goes-dropped, proved_at, handle_tells, feq_l, feq_i, fpack, Valss, within, shape, to, id⊢, RawPtr, ptr_val, rawptr_Lawful, E, packed, packed_typed}
use Rattle.llama_c.specs.contracts.part.Part as part
use Rattle.llama_c.specs.contracts.part.Part.empty as f
use Rattle.llama_c.proofs.part.Part.empty.Statement.{statement}
use Rattle.llama_c.proofs.part.Part.empty.Code as code

abbrev stayed : Stays f.ended.signature.params f.ended.kept
stayed = (stay_dropped (plain (λ _. RawPtr)) yes, (stay_dropped (plain (λ _. E.al.row)) yes, tt))

pub empty_spec : {M : Type 1} → statement M
empty_spec 𝓤 𝓛 𝓜 𝓡 wired =
    let c = f.clauses 𝓛 𝓜.mem 𝓡.returns in let W = walk_of 𝓛 f.ended stayed c in let 𝓣 = tables 𝓤 𝓛.H 𝓜 𝓡 𝓡.env in
    proved_at 𝓛 f.ended stayed c 𝓜 𝓡 (Goes-dropped 𝓛 0 (plain (λ _. RawPtr)) yes (λ κs x w. refl), (Goes-dropped 𝓛 0 (plain (λ _. E.al.row)) yes (λ κs x w. refl), tt))
    f.Key.name code.function (code.unfolded 𝓤 𝓛.H 𝓜 𝓡 wired) (λ y are.
    let at = y.0.3.0 in let alloc = y.0.3.1.0 in let us = y.0.4.0 in let hs = y.0.4.1.0 in
    qed 𝓛 ((‵ ftrue ⊛ ‵ (fsep (RawPtr.own_val at us) (fsep (E.al.row.own_val alloc hs) ftrue))) ∷ raw (emp 𝓤) ∷ []) ∵ split ! $ drop ! $ fsplit ! $
    feq_l ! (λ first. fsplit ! $ handle_tells E.al ! alloc hs (λ hv second fits.
    let v = packed at hv in
    regoal ! (λ (vs : List Val). prop (WpFn 𝓤 𝓛.H 𝓣.C 𝓣.Λ code.function (vs ++ (hs ++ [])) (W.post y))) first refl $
    regoal ! (λ (vs : List Val). prop (WpFn 𝓤 𝓛.H 𝓣.C 𝓣.Λ code.function ((ptr_val at ∷ []) ++ (vs ++ [])) (W.post y))) second refl $
    enter ! _ _ _ _ _ $ alloc_all ! (λ ls. pass_all ! refl (((rawptr_Lawful 𝓛).typed at _ refl).0, (fits, tt)) $
    -- [the handle; true; nothing]
    sets ! (agg ! (and_then ! (get ! refl) (and_then ! (get ! refl) (no_more !)))) refl (packed_typed at hv fits) $
    returns ! (look_at ! 0 refl) $ free_all ! refl $
    let made : part.the_row.Denot = record { at = at; alloc = alloc; held = None } in
    move ! (2 ∷ []) $ drop ! $
    -- [the handle; true]
    feq_i ! (List Val) (ptr_val at ∷ []) (ptr_val at ∷ []) refl $ move ! (1 ∷ []) $ nothing ! $ move ! (1 ∷ 0 ∷ []) $ fjoin ! $ move ! (1 ∷ 0 ∷ []) $ fjoin ! $
    feq_i ! (List Val) (v ∷ []) (v ∷ []) refl $ fjoin ! $
    fpack ! (Valss (RawPtr ∷ E.al.row ∷ [])) (within (shape part.the_type) (to part.the_type made) (v ∷ [])) (ptr_val at ∷ [], (hv ∷ [], tt)) $ fjoin ! $
    use1 𝓛 (‵ (part.the_row.own_val made (v ∷ []))) (id⊢ 𝓤 _) $
    suffices ! _ (ends_at 𝓛 f.ended stayed c y v made (tt, (tt, tt)) (tt, (tt, tt))) $ says ! refl $
    nothing ! $ nothing ! $ fjoin ! $ nothing ! $ fjoin ! $ join ! $ nothing ! $ join ! $ done !))))
