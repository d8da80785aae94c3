-- Rules for a walk by hand, each a few of the logic's own at once: a local is read, a number goes from a struct behind a reference
-- into a local, a number goes from a struct in a local to a struct behind a reference, and a local is freed. Positions count the
-- context's entries. Assumes nothing.
use mathlib.Core.Path.{◌≡◌, subst}
use mathlib.Core.Option.{Option, none, some}
use mathlib.Core.List.{List, [], ◌∷◌}
use Prim.Native.Nat.{ℕ, zero}
use seplogic.Ra.Ura.{Ura}
use base.Fraction.{full_share}
use lib.Dec.{T}
use mir.Syntax.{Sym, Ty, Tys, ty_struct, deref, field, place, copy, rv_opd, Body, seq, assign, Local, local}
use mir.Fields.{get_v, set_v}
use mir.Val.{Val, Vals, vptr, vstruct, WT, has_ty}
use base.Logic.{ent, sep, via, assoc', mono_l, mono_r}
use base.Fml.{Share, fat, froom, fdies}
use prog.Memory.{field_at, field_of}
use prog.Wp.{Heap, Env, spot_of, Calls, Loops}
use types.Logic.{Logic}
use types.Kit.{Item, ‵, mean, ⋆, nth, del, put, pull, Post, Goal, runs, frees, Step, step}
use types.Run.{Opd as Gives, look, init, stop, hop, fld, from, load, of_opd, assigns}
use types.Part.{Part, sub, look_in, store_in}
use denote.Laws.{valss}
use denote.Struct.Struct.{AreAll}
use denote.Struct.Declared.{Declared, fields}
use denote.Struct.Laws as LL

-- ---- what they speak of
-- what whoever holds a record of numbers knows of its fields: that each fits its width
abbrev pub Known : (D : Declared) → LL.Laws D → D.D → Type 0
Known D L d = AreAll (fields D) (D.to d) (valss (fields D) (LL.spells D.parts L) (D.to d))

module _ {M : Type 1} (𝓤 : Ura M) (H : Heap 𝓤) where
  -- the locals' types and blocks
  abbrev pub placed : List Local → List ℕ → Env 𝓤 H
  placed [] ms = []
  placed (l ∷ ls) [] = []
  placed (local τ h ∷ ls) (m ∷ ms) = (τ, m) ∷ placed ls ms

  -- the locals in memory, the last first: the cell of one that holds a value and the room of one that doesn't, each with what says that it dies
  abbrev pub in_memory : Env 𝓤 H → List (Option Val) → List (Item 𝓤) → List (Item 𝓤)
  in_memory [] vs Γ = Γ
  in_memory (e ∷ E) [] Γ = Γ
  in_memory ((τ, b) ∷ E) (some v ∷ vs) Γ = in_memory E vs (‵ (fat full_share τ b zero v) ∷ ‵ (fdies τ b) ∷ Γ)
  in_memory ((τ, b) ∷ E) (none ∷ vs) Γ = in_memory E vs (‵ (froom τ b zero) ∷ ‵ (fdies τ b) ∷ Γ)

-- ---- the rules
module _ {M : Type 1} {𝓤 : Ura M} {𝓛 : Logic 𝓤} {K : Type 0} {Γ : List (Item 𝓤)} where
  -- the local at entry n is read
  open 𝓛 use {H}

  pub reads_local : K → {E : Env 𝓤 H} {i : ℕ} (n : ℕ) {q : Share} {v : Val} → nth 𝓛 n Γ ≡ ‵ (fat q (spot_of 𝓤 H E i).0 (spot_of 𝓤 H E i).1 zero v)
      → Gives K 𝓛 Γ E (copy (place i [])) v
  reads_local t n e = load t (from t (stop t)) (look t n e)

  module _ {E : Env 𝓤 H} {C : Calls 𝓤 H} {Λ : Loops 𝓤 H} {Q : Post 𝓤 H} {rest : Body} where
    -- the number in field f of the struct behind the reference at entry r goes into the local that has room at entry n; the struct is at entry s
    pub takes : K → {l j f : ℕ} (r s n : ℕ) {p q : Share} {ν : Sym} {τs : Tys} {σ τ : Ty} {b o d : ℕ} {vs : Vals} {back : Val → Item 𝓤}
        → nth 𝓛 r Γ ≡ ‵ (fat p (spot_of 𝓤 H E l).0 (spot_of 𝓤 H E l).1 zero (vptr b o))
        → field_of σ f ≡ some (τ, d) → field_at zero τs f ≡ some (τ, d)
        → Part K 𝓛 (nth 𝓛 s Γ) q (ty_struct ν τs) b o (vstruct vs) back
        → nth 𝓛 n Γ ≡ ‵ (froom (spot_of 𝓤 H E j).0 (spot_of 𝓤 H E j).1 zero)
        → T (has_ty (spot_of 𝓤 H E j).0 (get_v vs f)) × WT (get_v vs f)
        → Step K 𝓛 (put 𝓛 n (‵ (fat full_share (spot_of 𝓤 H E j).0 (spot_of 𝓤 H E j).1 zero (get_v vs f))) Γ) (runs C Λ E rest Q)
        Γ (runs C Λ E (seq (assign (place j []) (rv_opd (copy (place l (deref σ ∷ field f ∷ []))))) rest) Q)
    takes t {f = f} r s n reference at_f in_struct struct room fits =
        assigns t (of_opd t (load t (from t (hop t (look t r reference) (fld t at_f (stop t)))) (look_in t s (sub t f in_struct struct))))
        (from t (stop t)) (init t n room fits)

    -- the number in field f of the struct in the local at entry n goes into field g of the struct behind the reference at entry r; that struct is at entry s
    pub puts : K → {l j f g : ℕ} (n r s : ℕ) {p q : Share} {μ ν : Sym} {σs τs : Tys} {σ τ υ : Ty} {b o d e : ℕ} {ws vs : Vals} {back into : Val → Item 𝓤}
        → field_of (spot_of 𝓤 H E j).0 f ≡ some (υ, e) → field_at zero σs f ≡ some (υ, e)
        → Part K 𝓛 (nth 𝓛 n Γ) q (ty_struct μ σs) (spot_of 𝓤 H E j).1 zero (vstruct ws) back
        → nth 𝓛 r Γ ≡ ‵ (fat p (spot_of 𝓤 H E l).0 (spot_of 𝓤 H E l).1 zero (vptr b o))
        → field_of σ g ≡ some (τ, d) → field_at zero τs g ≡ some (τ, d)
        → Part K 𝓛 (nth 𝓛 s Γ) full_share (ty_struct ν τs) b o (vstruct vs) into
        → T (has_ty τ (get_v ws f)) × WT (get_v ws f)
        → Step K 𝓛 (put 𝓛 s (into (vstruct (set_v vs g (get_v ws f)))) Γ) (runs C Λ E rest Q)
        Γ (runs C Λ E (seq (assign (place l (deref σ ∷ field g ∷ [])) (rv_opd (copy (place j (field f ∷ []))))) rest) Q)
    puts t {f = f} {g = g} n r s at_f in-local local-struct reference at_g in_struct struct fits =
        assigns t (of_opd t (load t (from t (fld t at_f (stop t))) (look_in t n (sub t f in-local local-struct))))
        (from t (hop t (look t r reference) (fld t at_g (stop t)))) (store_in t s (sub t g in_struct struct) fits)

  -- the local at entry n is freed, whatever it holds; that it dies stands behind it
  pub frees_at : K → (n : ℕ) {τ : Ty} {b : ℕ} {v : Val} {E : Env 𝓤 H} {g : Goal 𝓤 H}
      → nth 𝓛 n Γ ≡ ‵ (fat full_share τ b zero v) → nth 𝓛 n (del 𝓛 n Γ) ≡ ‵ (fdies τ b)
      → Step K 𝓛 (del 𝓛 n (del 𝓛 n Γ)) (frees E g) Γ (frees ((τ, b) ∷ E) g)
  frees_at t n {τ} {b} {v} at-cell at-dies = step (λ s. record {
    prf = via 𝓤 (sep 𝓤 (H.at full_share τ b zero v) (⋆ 𝓛 (del 𝓛 n Γ)))
        (subst (λ (j : Item 𝓤). ent 𝓤 (⋆ 𝓛 Γ) (sep 𝓤 (mean 𝓛 j) (⋆ 𝓛 (del 𝓛 n Γ)))) at-cell (pull 𝓛 n Γ))
        (via 𝓤 (sep 𝓤 (H.room τ b zero) (⋆ 𝓛 (del 𝓛 n Γ))) (mono_l 𝓤 (⋆ 𝓛 (del 𝓛 n Γ)) (𝓛.laws.at_room τ b zero v))
        (via 𝓤 (sep 𝓤 (H.room τ b zero) (sep 𝓤 (H.dies τ b) (⋆ 𝓛 (del 𝓛 n (del 𝓛 n Γ)))))
        (mono_r 𝓤 (H.room τ b zero)
        (subst (λ (j : Item 𝓤). ent 𝓤 (⋆ 𝓛 (del 𝓛 n Γ)) (sep 𝓤 (mean 𝓛 j) (⋆ 𝓛 (del 𝓛 n (del 𝓛 n Γ))))) at-dies
        (pull 𝓛 n (del 𝓛 n Γ))))
        (via 𝓤 (sep 𝓤 (sep 𝓤 (H.room τ b zero) (H.dies τ b)) (⋆ 𝓛 (del 𝓛 n (del 𝓛 n Γ))))
        (assoc' 𝓤 (H.room τ b zero) (H.dies τ b) (⋆ 𝓛 (del 𝓛 n (del 𝓛 n Γ))))
        (mono_r 𝓤 (sep 𝓤 (H.room τ b zero) (H.dies τ b)) s.prf))));
  })
