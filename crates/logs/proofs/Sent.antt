-- (vi) What an age says of the log: it is one number, and the send stands before as many ticks. Assumes nothing.
use Prim.Native.Nat.{ℕ, suc, ◌+◌, ◌≤◌}
use native.Mathlib.Omega.{arith}
use mathlib.Core.List.{List, [], ◌∷◌, ◌++◌}
use mathlib.Core.Path.{◌≡◌, refl, sym, ap, subst, ◌∙◌}
use Rattle.machine.specs.Log.{Call}
use Rattle.lists.proofs.Links.{cases}
use Rattle.lists.proofs.Tests.{tested}
use Rattle.logs.specs.Sent.{SendsIn, Unsent, is_tick, ticks_in, LastSend, age_after, Since, LastTick, SentBefore}
use Rattle.logs.proofs.Aging.{ticks_both}

-- ---- one age
not_unsent : {b : ℕ} {c : Call} → SendsIn b c → (l k : List Call) → Unsent b (l ++ (c ∷ k)) → ⊥
not_unsent s [] k u = u.0 s
not_unsent s (d ∷ l) k u = not_unsent s l k u.1

-- the rest of calls
abbrev rest : List Call → List Call
rest [] = []
rest (c ∷ l) = l

-- what follows the last send in b
one_after : {b : ℕ} (l l' : List Call) (c c' : Call) (k k' : List Call) → SendsIn b c → SendsIn b c' → Unsent b k → Unsent b k'
    → l ++ (c ∷ k) ≡ l' ++ (c' ∷ k') → k ≡ k'
one_after [] [] c c' k k' s s' u u' e = ap rest e
one_after {b} [] (d ∷ l') c c' k k' s s' u u' e = absurd (not_unsent s' l' k' (subst (Unsent b) (ap rest e) u))
one_after {b} (d ∷ l) [] c c' k k' s s' u u' e = absurd (not_unsent s l k (subst (Unsent b) (sym (ap rest e)) u'))
one_after (d ∷ l) (d' ∷ l') c c' k k' s s' u u' e = one_after l l' c c' k k' s s' u u' (ap rest e)

one_last : {b : ℕ} {l : List Call} (p q : LastSend b l) → p.after ≡ q.after
one_last p q =
    one_after p.before q.before p.send q.send p.after q.after p.sends q.sends p.last q.last (sym p.all ∙ q.all)

-- the calls alone say how old the conversation in b is
pub one_age : {b : ℕ} {l : List Call} {x y : ℕ} → Since b l x → Since b l y → x ≡ y
one_age p q = p.is ∙ ap age_after (one_last p.sent q.sent) ∙ sym q.is

-- ---- the k-th last tick
further : {k : ℕ} {l : List Call} (c : Call) → LastTick k l → LastTick k (c ∷ l)
further c t = record {
  before = c ∷ t.before;
  tick = t.tick;
  after = t.after;
  all = ap (λ (x : List Call). c ∷ x) t.all;
  ticks = t.ticks;
  follow = t.follow;
}

last_tick : (k : ℕ) (l : List Call) → 1 ≤ k → k ≤ ticks_in l → LastTick k l
unfolding ticks_in
last_tick k [] i u = absurd (omega arith)
last_tick k (c ∷ l) i u =
    tested (is_tick c)
    (λ t. cases k (suc (ticks_in l)) (λ e. record { before = []; tick = c; after = l; all = refl; ticks = t; follow = sym e })
    (λ n. further c (last_tick k l i (let v : k ≤ 1 + ticks_in l = rw t at u in omega arith))))
    (λ t. further c (last_tick k l i (let v : k ≤ 0 + ticks_in l = rw t at u in omega arith)))

-- a conversation of k ticks or older was sent before the k-th last tick
pub older_sent_before : {b : ℕ} {l : List Call} {age : ℕ} → Since b l age → (k : ℕ) → 1 ≤ k → k ≤ age → SentBefore b l k
older_sent_before s k i u = record { sent = s.sent; tick = last_tick k s.sent.after i (omega (arith, s.is)) }

-- and one sent before it is that old, for k up to 65,535
pub sent_before_older : {b : ℕ} {l : List Call} {age : ℕ} → Since b l age → (k : ℕ) → k ≤ 65535 → SentBefore b l k → k ≤ age
unfolding ticks_in
sent_before_older s k u t =
    let w = t.tick in
    let e : ticks_in s.sent.after ≡ ticks_in w.before + (1 + ticks_in w.after) =
    ap ticks_in (one_last s.sent t.sent ∙ w.all) ∙ ticks_both w.before (w.tick ∷ w.after) ∙ simp w.ticks in
    omega (arith, e, s.is, w.follow)
