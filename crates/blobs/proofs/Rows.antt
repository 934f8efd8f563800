-- The raw calls that make a row of places and take it apart, and what a lease owns. Assumes `Logic`.
use Rattle.blobs.proofs.Imports.{Bool, [], ◌∷◌, ◌++◌, T, Ura, w64, Val, vint, vptr, vstruct, vnil, of_list, has_ty, WT, SProp, ent, sep, ex, guard, emp, id⊢, Lft, Share, ftrue, fsep, flft, Memory, Routine, Logic, sem, ◌⊑◌, Fun, fact, fact_i, Goal, Step, step, Seq, Item, ‵, raw, ◌⊛◌, some, later, ◌$◌, ◌∵◌, !, qed, move, keep, use0, use1, split, join, pick, rewrite, fsplit, fjoin, fjoin3, fpick, feq_i, feq_l, flt_i, flt_l, check, show, await, updating, now, done, RattleType, layout, Ptr, RawPtr, block_ptr, usize, pure_i, only, heard, nothing, Struct, shape, Tuple, triple_of, Contract, slots, owned, slots_items, slots_filled, slots_ptr, slots_len, Al, token, lease_val, block_ty, P, El, el_x, R, sz, Sr, words_val, row_val, row_had, row_made}
use mathlib.Core.Path.{◌≡◌, refl, sym, subst, ap, ◌∙◌}
use Prim.Native.Nat.{ℕ, ◌*◌, ◌<◌, ◌^◌}
use mathlib.Core.List.{List}
use lib.ListN.{length}
use types.Kit.{drop}
use Rattle.core.specs.contracts.slots.Slots.from_raw_parts as FR
use Rattle.core.specs.contracts.slots.Slots.into_raw_parts as IR
use Rattle.blobs.specs.contracts.lease.Lease as L

module _ (E : El) where
  abbrev pub Row : RattleType
  Row = Sr E

  pub row_Typed : (v : Val) (b o n : ℕ) → v ≡ row_val b o n → n < 2 ^ 64 → T (has_ty (layout Row) v) × WT v
  row_Typed v b o n e fn = subst (λ (z : Val). T (has_ty (layout Row) z) × WT z) (sym e) (tt, (tt, (record { fits = fn }, tt)))

module _ (E : El) {M : Type 1} {𝓤 : Ura M} {𝓛 : Logic 𝓤} {K : Type 0} {Γ : List (Item 𝓤)} {G : Goal 𝓤 𝓛.H} where
  -- the row's two words are learned, and the row stays
  pub row_seen : K → (r : (Row E).Denot) (vs : List Val)
      → ((b o : ℕ) → slots_ptr r ≡ block_ptr b o → vs ≡ row_val b o (slots_len r) ∷ [] → slots_len r < 2 ^ 64 → slots_len r * sz E < 2 ^ 63 → Seq K 𝓛 (‵ ((Row E).own_val r (row_val b o (slots_len r) ∷ [])) ∷ Γ) G)
      → Seq K 𝓛 (‵ ((Row E).own_val r vs) ∷ Γ) G
  row_seen t r vs k = row_had E t r vs (λ b o at e fn fit. row_made E t r b o at fn fit $ k b o at e fn fit)

module _ (E : El) {M : Type 1} {𝓤 : Ura M} (𝓛 : Logic 𝓤) (at_mem : Memory → SProp 𝓤) (run : Routine → Fun 𝓤) where
  open 𝓛 use {H, A}

  abbrev pub From : Contract 𝓤
  From = triple_of 𝓛 (FR.signature E.row) (FR.spec E.row 𝓛 at_mem run)

  module _ (κ : Lft) (q : Share) (b o n : ℕ) (xs : List (el_x E)) (fs : List Bool) where
    abbrev pub at_from : From.Ghost
    at_from = (((κ, tt), (q, tt), tt, (block_ptr b o, (n, tt)), (vptr b o ∷ [], (vint w64 n ∷ [], tt))), (xs, fs))

    abbrev pub Made : (Row E).Denot → Type 0
    Made r = (slots_ptr r ≡ block_ptr b o) × (slots_len r ≡ n) × (slots_items r ≡ xs) × (slots_filled r ≡ fs)

    pub from_goes : κ ⊑ E.row.lives → n ≡ length xs → n ≡ length fs → n < 2 ^ 64 → n * sz E < 2 ^ 63
        → ent 𝓤 (sep 𝓤 (sem 𝓛 (slots (R E) (block_ptr b o) xs fs)) (A.lft κ q)) (From.pre at_from)
    from_goes le lx lf fn fit =
        let Ok : Type 0 = (n ≡ length xs) × (n ≡ length fs) in
        qed 𝓛 (‵ (slots (R E) (block_ptr b o) xs fs) ∷ ‵ (flft κ q) ∷ []) ∵ flt_i ! (n * sz E) (2 ^ 63) fit $ fjoin ! $
        use0 𝓛 (raw (fact 𝓤 Ok)) (fact_i 𝓤 Ok (emp 𝓤) (lx, lf)) $ join ! $ use0 𝓛 (raw (fact 𝓤 (κ ⊑ E.row.lives))) (fact_i 𝓤 (κ ⊑ E.row.lives) (emp 𝓤) le) $ join ! $
        nothing ! $ flt_i ! n (2 ^ 64) fn $ feq_i ! (List Val) (vint w64 n ∷ []) (vint w64 n ∷ []) refl $ fjoin ! $ feq_i ! (List Val) (vptr b o ∷ []) (vptr b o ∷ []) refl $ fjoin3 ! $
        nothing ! $ move ! (3 ∷ 0 ∷ []) $ join ! $ join ! $ done !

    pub from_gives : (v : Val) → ent 𝓤 (From.post at_from v)
        (H.⇛ (ex 𝓤 (λ (r : (Row E).Denot). guard 𝓤 ((v ≡ row_val b o n) × Made r) (sep 𝓤 (sem 𝓛 ((Row E).own_val r (row_val b o n ∷ []))) (A.lft κ q)))))
    from_gives v =
        qed 𝓛 (raw (From.post at_from v) ∷ []) ∵ updating ! $
        use1 𝓛 (later (some (λ (r : (Row E).Denot). ((‵ (flft κ q) ⊛ ‵ ftrue) ⊛ ‵ ((Row E).own_val r (v ∷ []))) ⊛ some (λ (ws : Unit {0} × (Unit {0} × Unit {0})). ‵ (fsep ftrue (fsep ftrue ftrue)) ⊛ raw (fact 𝓤 (Made r)))))) (id⊢ 𝓤 _) $ await ! tt $ pick ! (λ r.
        split ! $ move ! (1 ∷ []) $ pick ! (λ ws. split ! $ drop ! $ heard ! (Made r) (λ is. split ! $ split ! $ move ! (2 ∷ []) $ row_seen E ! r (v ∷ []) (λ b' o' at e fn fit.
        let same : row_val b' o' (slots_len r) ≡ row_val b o n = λ i. words_val ((sym at ∙ is.0) i) (is.1 i) in
        rewrite ! 0 (λ (u : Val). ‵ ((Row E).own_val r (u ∷ []))) same refl $ now ! $
        show ! (λ (d : (Row E).Denot). guard 𝓤 ((v ≡ row_val b o n) × Made d) (sep 𝓤 (sem 𝓛 ((Row E).own_val d (row_val b o n ∷ []))) (A.lft κ q))) r $ check ! (ap only e ∙ same, is) $ keep ! (0 ∷ 1 ∷ []) $ done !))))

pub words_Typed : (v : Val) (b o n : ℕ) → v ≡ row_val b o n → n < 2 ^ 64 → T (has_ty (layout (Tuple (RawPtr ∷ usize ∷ []))) v) × WT v
words_Typed v b o n e fn = subst (λ (z : Val). T (has_ty (layout (Tuple (RawPtr ∷ usize ∷ []))) z) × WT z) (sym e) (tt, (tt, (record { fits = fn }, tt)))

module _ (E : El) {M : Type 1} {𝓤 : Ura M} (𝓛 : Logic 𝓤) (at_mem : Memory → SProp 𝓤) (run : Routine → Fun 𝓤) where
  open 𝓛 use {H, A}

  abbrev pub Into : Contract 𝓤
  Into = triple_of 𝓛 (IR.signature E.row) (IR.spec E.row 𝓛 at_mem run)

  module _ (κ : Lft) (q : Share) (r : (Row E).Denot) (b o : ℕ) where
    abbrev pub at_into : Into.Ghost
    at_into = (((κ, tt), (q, tt), tt, (r, tt), (row_val b o (slots_len r) ∷ [], tt)), tt)

    pub into_goes : κ ⊑ E.row.lives → ent 𝓤 (sep 𝓤 (sem 𝓛 ((Row E).own_val r (row_val b o (slots_len r) ∷ []))) (A.lft κ q)) (Into.pre at_into)
    into_goes le =
        qed 𝓛 (‵ ((Row E).own_val r (row_val b o (slots_len r) ∷ [])) ∷ ‵ (flft κ q) ∷ []) ∵
        nothing ! $ use0 𝓛 (raw (fact 𝓤 (κ ⊑ E.row.lives))) (fact_i 𝓤 (κ ⊑ E.row.lives) (emp 𝓤) le) $ join ! $
        nothing ! $ move ! (2 ∷ 0 ∷ []) $ fjoin ! $ nothing ! $ move ! (3 ∷ 0 ∷ []) $ join ! $ join ! $ done !

    -- the two words, and the places
    pub into_gives : slots_ptr r ≡ block_ptr b o → (v : Val) → ent 𝓤 (Into.post at_into v)
        (H.⇛ (guard 𝓤 (v ≡ row_val b o (slots_len r)) (sep 𝓤 (sem 𝓛 (owned (R E) (slots_ptr r) (slots_len r) (slots_items r) (slots_filled r))) (A.lft κ q))))
    into_gives at v =
        let Parts : Ptr × ℕ → Type 0 = λ parts. (parts.0 ≡ slots_ptr r) × (parts.1 ≡ slots_len r) in
        qed 𝓛 (raw (Into.post at_into v) ∷ []) ∵ updating ! $
        use1 𝓛 (later (some (λ (parts : Ptr × ℕ). ((‵ (flft κ q) ⊛ ‵ ftrue) ⊛ ‵ ((Tuple (RawPtr ∷ usize ∷ [])).own_val parts (v ∷ [])))
        ⊛ some (λ (ws : Unit {0} × Unit {0}). ‵ (fsep ftrue ftrue) ⊛ raw (fact 𝓤 (Parts parts)) ⊛ ‵ (owned (R E) (slots_ptr r) (slots_len r) (slots_items r) (slots_filled r)))))) (id⊢ 𝓤 _) $ await ! tt $ pick ! (λ parts.
        split ! $ move ! (1 ∷ []) $ pick ! (λ ws. split ! $ drop ! $ split ! $ heard ! (Parts parts) (λ are.
        move ! (1 ∷ []) $ split ! $ move ! (1 ∷ []) $ fpick ! (λ vss. fsplit ! $ feq_l ! (λ all. fsplit ! $ feq_l ! (λ e₀. fsplit ! $ fsplit ! $ feq_l ! (λ e₁. flt_l ! (λ fn. drop ! $
        split ! $ now ! $ check ! (ap only (all ∙ (λ i. vstruct (of_list (e₀ i ++ (e₁ i ++ []))) ∷ []) ∙ ap (λ (p : Ptr). words_val p parts.1 ∷ []) (are.0 ∙ at) ∙ ap (λ (n : ℕ). row_val b o n ∷ []) are.1)) $
        move ! (2 ∷ 0 ∷ []) $ keep ! (0 ∷ 1 ∷ []) $ done !))))))))

module _ (E : El) (Z : Al) where
  abbrev pub Lr : RattleType
  Lr = L.the_row (R E) (P E Z) Z.g

  abbrev pub made : Z.row.Denot → ℕ → ℕ → ℕ → Lr.Denot
  made heap b o n = record { ptr = block_ptr b o; len = n; by = record {}; alloc = heap }

module _ (E : El) (Z : Al) {M : Type 1} {𝓤 : Ura M} {𝓛 : Logic 𝓤} {K : Type 0} {Γ : List (Item 𝓤)} {G : Goal 𝓤 𝓛.H} where
  pub lease_had : K → (d : (Lr E Z).Denot) (vs : List Val)
      → (vs ≡ lease_val d.ptr d.len ∷ [] → d.len < 2 ^ 64 → Seq K 𝓛 (‵ (token Z d.alloc (block_ty E d.len) d.ptr) ∷ Γ) G) → Seq K 𝓛 (‵ ((Lr E Z).own_val d vs) ∷ Γ) G
  lease_had t d vs k =
      fsplit t $ fpick t (λ vss. fsplit t $ feq_l t (λ all. fsplit t $ feq_l t (λ e₀. fsplit t $ fsplit t $ feq_l t (λ e₁. flt_l t (λ fn. fsplit t $ fpick t (λ none. fsplit t $ feq_l t (λ e₂. drop t $ drop t $
      k (all ∙ (λ i. vstruct (of_list (e₀ i ++ (e₁ i ++ (e₂ i ++ [])))) ∷ [])) fn)))))))

  pub lease_made : K → (heap : Z.row.Denot) (b o n : ℕ) → n < 2 ^ 64
      → Step K 𝓛 (‵ ((Lr E Z).own_val (made E Z heap b o n) (lease_val (block_ptr b o) n ∷ [])) ∷ Γ) G (‵ (token Z heap (block_ty E n) (block_ptr b o)) ∷ Γ) G
  lease_made t heap b o n fn = step (λ s.
      pure_i t ((Struct (shape (L.the_type (R E) (P E Z) Z.g))).own_val (block_ptr b o, (n, (tt, tt))) (lease_val (block_ptr b o) n ∷ [])) (λ vss. (tt, (tt, ((tt, tt), ((λ uss. (tt, tt)), tt)))))
      ((vptr b o ∷ [], (vint w64 n ∷ [], (vstruct vnil ∷ [], tt))), (refl, (refl, ((refl, fn), ((tt, (refl, tt)), tt))))) $ fjoin t $ s)
