-- `into_parts` gives the pointer its type back; what a full part owns is what the parts own.
use Rattle.llama_c.proofs.PartWalks.{Option, IsSome, refl, sym, List, [], ◌∷◌, ◌++◌, Val, id⊢, ftrue, fsep, WpFn, fact, tables, ‵, raw, ◌⊛◌, prop, ◌$◌, ◌∵◌, !, qed, move, drop, use1, join, split, regoal, rewrite, fsplit, fjoin, suffices, done, whole, sub, agg, stop, fld, no_more, and_then, of_opd, returns, enter, alloc_all, pass_all, free_all, look_at, get, get_in, sets, yes, plain, heard, nothing, says, Stays, stay_dropped, walk_of, ends_at, Goes-dropped, proved_at, D, B, word, box_typed, box_out, box_in, E, Taken, value_in}
use Rattle.llama_c.specs.contracts.part.Part as part
use Rattle.llama_c.specs.contracts.part.Part.into_parts as f
use Rattle.llama_c.proofs.part.Part.into_parts.Statement.{statement}
use Rattle.llama_c.proofs.part.Part.into_parts.Code as code

abbrev stayed : Stays f.ended.signature.params f.ended.kept
stayed = (stay_dropped (plain (λ _. part.the_row)) yes, tt)

pub into_parts_spec : {M : Type 1} → statement M
into_parts_spec 𝓤 𝓛 𝓜 𝓡 wired =
    let c = f.clauses 𝓛 𝓜.mem 𝓡.returns in let W = walk_of 𝓛 f.ended stayed c in let 𝓣 = tables 𝓤 𝓛.H 𝓜 𝓡 𝓡.env in
    proved_at 𝓛 f.ended stayed c 𝓜 𝓡 (Goes-dropped 𝓛 0 (plain (λ _. part.the_row)) yes (λ κs x w. refl), tt)
    f.Key.name code.function (code.unfolded 𝓤 𝓛.H 𝓜 𝓡 wired) (λ y are.
    let self = y.0.3.0 in let us = y.0.4.0 in
    qed 𝓛 ((‵ ftrue ⊛ ‵ (fsep (part.the_row.own_val self us) ftrue)) ∷ raw (fact 𝓤 (IsSome self.held)) ∷ []) ∵ split ! $ drop ! $ fsplit ! $
    move ! (2 ∷ []) $ heard ! (IsSome self.held) (λ full.
    let one = value_in self.held full in
    let box : D E = record { ptr = self.at; alloc = self.alloc; value = one.0 } in
    rewrite ! 0 (λ (held : Option (E.row).Denot). ‵ (part.the_row.own_val (record self { held = held }) us)) one.1 refl $ use1 𝓛 (‵ ((B E).own_val box us)) (id⊢ 𝓤 _) $
    box_out E ! box us (λ b o hv at is fits. box_in E ! box b o box.value at refl $
    let w = word E hv b o in
    let made : Taken.Denot = record { ptr = self.at; alloc = self.alloc; value = one.0 } in
    use1 𝓛 (‵ (Taken.own_val made (w ∷ []))) (id⊢ 𝓤 _) $
    regoal ! (λ (vs : List Val). prop (WpFn 𝓤 𝓛.H 𝓣.C 𝓣.Λ code.function (vs ++ []) (W.post y))) is refl $
    enter ! _ _ _ _ _ $ alloc_all ! (λ ls. pass_all ! refl (box_typed E hv b o fits, tt) $
    -- [the parts; true]
    sets ! (of_opd ! (get_in ! (fld ! refl (stop !)) (sub ! 0 refl (whole !)))) refl (tt, tt) $
    sets ! (of_opd ! (get_in ! (fld ! refl (stop !)) (sub ! 1 refl (whole !)))) refl fits $
    sets ! (of_opd ! (get ! refl)) refl (tt, tt) $
    sets ! (agg ! (and_then ! (get ! refl) (and_then ! (get ! refl) (no_more !)))) refl (box_typed E hv b o fits) $
    returns ! (look_at ! 0 refl) $ free_all ! refl $ move ! (1 ∷ []) $ drop ! $
    suffices ! _ (ends_at 𝓛 f.ended stayed c y w made (tt, tt) (tt, tt)) $ says ! (sym one.1) $
    nothing ! $ nothing ! $ fjoin ! $ join ! $ nothing ! $ join ! $ done !))))
