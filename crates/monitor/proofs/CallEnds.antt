-- The four ways out of a call, each with the whole promise: row 13, row 1, a listing, any other call served; and its walk. Assumes nothing.
use mathlib.Core.List.{List}
use mathlib.Core.Path.{◌≡◌, refl, sym, ap, subst, ◌∙◌}
use Prim.Native.Nat.{ℕ}
use lib.Dec.{eqb}
use lib.ListN.{length}
use Rattle.machine.specs.Queue.{Range}
use Rattle.machine.specs.Machine.{Words}
use Rattle.machine.specs.Request.{Request, request, ListOpen, Unknown, last_call}
use Rattle.machine.specs.Refusal.{first, refusal}
use Rattle.machine.specs.Step.{Answer as Reply, Outcome, refused}
use Rattle.machine.specs.Walk.{Walk, nowhere, effort, walk}
use Rattle.machine.specs.Words.{Shows}
use Rattle.machine.specs.Sound.{Sound}
use Rattle.laws.proofs.Bridge.{sound_shows}
use Rattle.laws.proofs.Decoded.{shows_sound}
use Rattle.lists.proofs.Tests.{either, outside_true, outside_false}
use Rattle.laws.proofs.Unique.{unique}
use native.Mathlib.Omega.{arith}
use Rattle.answers.specs.Promise.{Walks, Serves, ServesWalked, Answers, with_listing}
use Rattle.answers.proofs.Walks.{refused_walked}
use Rattle.monitor.specs.Promise.{Called, CalledWalked}
use Rattle.listing.specs.Rows as rows
use Rattle.laws.proofs.Dispatch.{request_unknown, request_lists, unknown_step, step_listing, step_refused}

-- a step that refuses leaves words and room as they were
module _ {t : List ℕ} (S : Sound t) {r : Reply} (n : r.number ≡ 0 → ⊥) where
  words_same : {u : List ℕ} (q : Request) → Serves t u q r → u ≡ t
  words_same {u} q h =
      let (m, w, L) = sound_shows S in
      let c = h m w L in
      let e = step_refused m q (λ z. n (ap (λ (x : Reply). x.number) c.answer ∙ z)) in
      unique (subst (λ (o : Outcome). Shows u o.machine) e c.words) w

  room_same : {s v : List ℕ} {a : ℕ} → rows.ServesListing t s v a r → v ≡ s
  room_same {s} {a} h =
      let (m, w, L) = sound_shows S in
      let q = ListOpen a (length s) in
      let e = step_refused m q (λ z. n (ap (λ (x : Reply). x.number) (h.comes m w L).answer ∙ z)) in
      h.room m w L ∙ ap (λ (o : Outcome). with_listing o.listing s) e

module _ {t s : List ℕ} {k a b : ℕ} {ws : Words} {r : Reply} where
  pub call_unknown : (Range last_call k → ⊥) → r ≡ refused 13 → Called t t s s k a b ws r
  unfolding first
  call_unknown h e =
      let q = request_unknown k a b ws (length s) h in
      record {
        unsound = λ n. rw (outside_true last_call k h) e;
        sound = λ m w L. rw (q, unknown_step m) (record { answer = e; words = w });
        room = λ m w L. rw (q, unknown_step m);
        unchanged = λ n. (refl, refl);
      }

  pub call_unsound : Range last_call k → (Sound t → ⊥) → r ≡ refused 1 → Called t t s s k a b ws r
  unfolding first
  call_unsound h n e =
      record {
        unsound = λ _. rw (outside_false last_call k h) e;
        sound = λ m w L. absurd (n (shows_sound w L));
        room = λ m w L. absurd (n (shows_sound w L));
        unchanged = λ _. (refl, refl);
      }

  module _ (S : Sound t) where
    pub call_served : {u : List ℕ} → (k ≡ 11 → ⊥) → Serves t u (request k a b ws (length s)) r → Called t u s s k a b ws r
    call_served ne h =
        record {
          unsound = λ n. absurd (n S);
          sound = h;
          room = λ m w L. rw (step_listing m (request k a b ws (length s)) (request_lists k a b ws (length s) ne));
          unchanged = λ n. (words_same S n (request k a b ws (length s)) h, refl);
        }

    pub call_listed : {v : List ℕ} → k ≡ 11 → rows.ServesListing t s v a r → Called t t s v k a b ws r
    unfolding request
    call_listed e h =
        record {
          unsound = λ n. absurd (n S);
          sound = λ m w L. rw e (h.comes m w L);
          room = λ m w L. rw e (h.room m w L);
          unchanged = λ n. (refl, room_same S n h);
        }

-- a number that is no call's asks nothing, and is refused
pub unknown_answers : {t : List ℕ} {k a b : ℕ} {ws : Words} → (Range last_call k → ⊥) → Answers t t k a b ws (refused 13) nowhere
unfolding refusal
unknown_answers {k = k} {a = a} {b = b} {ws = ws} h =
    record { serves_walked = λ room. rw (request_unknown k a b ws room h) (refused_walked (λ m w L. refl) (omega arith) refl refl) }

-- ---- and how far those who entered walked
module _ {t s : List ℕ} {k a b : ℕ} {ws : Words} {r : Reply} {w : Walk} where
  pub walked_unknown : (Range last_call k → ⊥) → r ≡ refused 13 → w ≡ nowhere → CalledWalked t t s s k a b ws r w
  unfolding walk effort
  walked_unknown h e n =
      let q = request_unknown k a b ws (length s) h in
      record {
        called = call_unknown h e;
        unsound = λ _. n;
        sound = λ m _ _. n ∙ sym (rw q (either (λ (v : Walk). v ≡ nowhere) (eqb (refusal m Unknown) 0) (λ t. refl) (λ t. refl)));
      }

  pub walked_unsound : Range last_call k → (Sound t → ⊥) → r ≡ refused 1 → w ≡ nowhere → CalledWalked t t s s k a b ws r w
  walked_unsound h n e v = record { called = call_unsound h n e; unsound = λ _. v; sound = λ m x L. absurd (n (shows_sound x L)) }

  module _ (S : Sound t) where
    pub walked_served : {u : List ℕ} → (k ≡ 11 → ⊥) → ServesWalked t u (request k a b ws (length s)) r w → CalledWalked t u s s k a b ws r w
    walked_served ne h = record { called = call_served S ne h.serves; unsound = λ n. absurd (n S); sound = h.walks }

    pub walked_listed : {v : List ℕ} → k ≡ 11 → rows.ServesListing t s v a r → w ≡ nowhere → CalledWalked t t s v k a b ws r w
    unfolding request walk effort
    walked_listed e h n =
        record {
          called = call_listed S e h;
          unsound = λ n. absurd (n S);
          sound = λ m _ _. n ∙ sym (rw e (either (λ (v : Walk). v ≡ nowhere) (eqb (refusal m (ListOpen a (length s))) 0) (λ t. refl) (λ t. refl)));
        }

-- the same in other numbers that are these
pub settled_walked : {t u s v : List ℕ} {k a b : ℕ} {ws : Words} {r q : Reply} {w x : Walk} → Walks r w q x → CalledWalked t u s v k a b ws r w
    → CalledWalked t u s v k a b ws q x
settled_walked {t} {u} {s} {v} {k} {a} {b} {ws} {r} {q} {w} {x} e h =
    subst (λ (y : Walk). CalledWalked t u s v k a b ws q y) (sym e.walk)
    (subst (λ (z : Reply). CalledWalked t u s v k a b ws z w) (sym e.answer) h)
