-- One line of a block taken: its bytes bring a run to the next line, or into the line begun. Assumes nothing.
use mathlib.Core.Bool.{Bool, true, false}
use mathlib.Core.List.{List, [], ◌∷◌, ◌++◌, append-nil}
use mathlib.Core.Path.{◌≡◌, refl, sym, ap, ◌∙◌}
use Prim.Native.Nat.{ℕ, suc, ◌+◌, ◌*◌, ◌≤◌, ◌<◌}
use native.Mathlib.Decide.{dec_lt}
use native.Mathlib.Numerals.{add-one}
use native.Mathlib.Omega.{arith}
use lib.ListN.{length, take, get_or}
use lib.Dec.{eqb}
use lib.Seq.{take-suc, length-take-le}
use borrow.Author.Tests.{eqb-true, lt-ltb, le-ltb}
use Rattle.machine.specs.Queue.{if}
use Rattle.lists.proofs.Tests.{either}
use Rattle.lines.specs.Line.{Shape, shape}
use Rattle.lines.specs.Replay.{State, next as next_state}
use Rattle.lines.proofs.Run.{line_too_long}
use Rattle.turn.specs.declared.Run.{Run}
use Rattle.turn.specs.declared.blocks.Reader.{Reader}
use Rattle.turn.specs.InWords.{InWords, Leads, TakesTurn}
use Rattle.turn.specs.Begun.{before_end, Begun, Takes}
use Rattle.turn.specs.Feed.{reach, line_size, has_end, AtPoint, Feeds}
use Rattle.turn.proofs.Bytes.{reach_end}
use Rattle.turn.proofs.Storing.{none_stored}
use Rattle.turn.proofs.Writing.{none_written}

-- ---- how long a line is
end_byte : (block : List ℕ) → before_end block < length block → get_or block (before_end block) 0 ≡ 0x0A
unfolding before_end
end_byte [] h = absurd (omega arith)
end_byte (c ∷ l) h = go (eqb c 0x0A) refl (end_byte l) h
  where
    go : (t : Bool) → eqb c 0x0A ≡ t → (before_end l < length l → get_or l (before_end l) 0 ≡ 0x0A) → if t 0 (suc (before_end l)) < suc (length l)
        → get_or (c ∷ l) (if t 0 (suc (before_end l))) 0 ≡ 0x0A
    go true e r h = eqb-true c 0x0A e
    go false e r h = r (omega arith)

size_ended : (block : List ℕ) → before_end block < length block → line_size block ≡ before_end block + 1
unfolding before_end line_size
size_ended [] h = absurd (omega arith)
size_ended (c ∷ l) h = go (eqb c 0x0A) (size_ended l) h
  where
    go : (t : Bool) → (before_end l < length l → line_size l ≡ before_end l + 1) → if t 0 (suc (before_end l)) < suc (length l)
        → if t 1 (suc (line_size l)) ≡ if t 0 (suc (before_end l)) + 1
    go true r h = refl
    go false r h = omega (arith, r (omega arith))

size_all : (block : List ℕ) → before_end block ≡ length block → line_size block ≡ length block
unfolding before_end line_size
size_all [] h = refl
size_all (c ∷ l) h = go (eqb c 0x0A) (size_all l) h
  where
    go : (t : Bool) → (before_end l ≡ length l → line_size l ≡ length l) → if t 0 (suc (before_end l)) ≡ suc (length l)
        → if t 1 (suc (line_size l)) ≡ suc (length l)
    go true r h = absurd (omega arith)
    go false r h = omega (arith, r (omega arith))

-- where all bytes before the end were taken, and there is one
module _ (block : List ℕ) {k : ℕ} (e : k ≡ before_end block) (h : k < length block) where
  taken_ends : get_or block k 0 ≡ 0x0A
  taken_ends = rw e (end_byte block (rw e at h))

  taken_size : k + 1 ≡ line_size block
  taken_size = omega (arith, size_ended block (rw e at h))

-- ---- the line begun
-- what the buffer has is of the same shape
pub same_shape : {begun line : List ℕ} {n : ℕ} → length line ≡ 27 → Begun begun line n → shape begun ≡ shape (take n line)
same_shape {begun} {line} {n} h b = go (dec_lt 26 n)
  where
    go : Dec (26 < n) → shape begun ≡ shape (take n line)
    go (yes k) =
        let f = b.few in
        line_too_long begun (omega (arith, b.many k)) ∙ sym (line_too_long (take n line) (omega (arith, length-take-le n line (omega arith))))
    go (no k) = let e : 1 * n ≡ n = omega arith in ap shape (rw e at (b.words (omega arith)))

-- where none is begun
pub none_begun : {begun line : List ℕ} {n : ℕ} → Begun begun line n → n ≡ 0 → begun ≡ []
none_begun b e = rw e at (b.words (omega arith))

module _ {w w' : Reader} {block t : List ℕ} {k at : ℕ} where
  -- the line goes on past the block
  pub feeds_on : {before : List ℕ} → Takes w.begun.bytes w'.begun.bytes w.begun.len w'.begun.len block k → w'.run ≡ w.run
      → k ≡ length block → k ≡ before_end block
      → Feeds t w block t w' before at before (record { taken = k; next = at })
  unfolding reach
  feeds_on {before} f same u e =
      let none : has_end block ≡ false = rw (← e) (le-ltb k (length block) (omega arith)) in
      record {
        taken = u ∙ sym (size_all block (sym e ∙ u));
        comes = comes;
        list = λ begun b. rw none (ap (λ (x : Run). x.list) same);
        room = λ s begun c b. rw none (ap (λ (x : Run). x.room) same);
      }
    where
      comes : (s : State) (begun : List ℕ) → InWords s t w.run.list w.run.progress → Begun begun w.begun.bytes w.begun.len
          → AtPoint (reach s begun (take k block)) t w'.run.list w'.run.progress w'.begun.bytes w'.begun.len before at before at
      comes s begun c b =
          let goes = rw (← e) at (reach_end s begun block []) in
          let e : reach s begun (take k block) ≡ reach s (begun ++ take k block) [] = rw (append-nil (take k block)) at goes in
          rw (e, same) (record { in_words = c; stored = f.stored begun b; written = none_written before at; few = omega arith })

  -- it ends, and is of shape x
  pub feeds_line : {t' before out : List ℕ} {next : ℕ} {x : Shape} → k < length block → k ≡ before_end block → w'.begun.len ≡ 0
      → ((begun : List ℕ) → Begun begun w.begun.bytes w.begun.len → shape (begun ++ take k block) ≡ x)
      → TakesTurn x t w.run t' w'.run before at out next
      → Feeds t w block t' w' before at out (record { taken = k + 1; next = next })
  unfolding reach
  feeds_line {t'} {before} {out} {next} u z clear same turned =
      let some : has_end block ≡ true = rw (← z) (lt-ltb k (length block) u) in
      record {
        taken = taken_size block z u;
        comes = comes;
        list = λ begun b. rw (some, ← z, same begun b) turned.list;
        room = λ s begun c b. rw (some, ← z, same begun b) (turned.room s c);
      }
    where
      comes : (s : State) (begun : List ℕ) → InWords s t w.run.list w.run.progress → Begun begun w.begun.bytes w.begun.len
          → AtPoint (reach s begun (take (k + 1) block)) t' w'.run.list w'.run.progress w'.begun.bytes w'.begun.len before at out next
      comes s begun c b =
          let whole = begun ++ take k block in
          let goes = rw (← z) at (reach_end s begun block (0x0A ∷ [])) in
          let e : reach s begun (take (k + 1) block) ≡ reach s whole (0x0A ∷ []) = rw (add-one, take-suc block k 0 u, taken_ends block z u) goes in
          let y : Leads (next_state s whole) t' w'.run.list w'.run.progress before at out next = rw (same begun b) (turned.leads s c) in
          rw (e, append-nil (next_state s whole).output, clear)
          (record { in_words = y.in_words; stored = none_stored 26 1 w'.begun.bytes; written = y.written; few = y.few })

-- ---- of a block with bytes, a line takes some, and no more than there are
pub size_some : (block : List ℕ) → 0 < length block → 0 < line_size block
unfolding line_size
size_some [] h = absurd (omega arith)
size_some (c ∷ l) h = either (λ (n : ℕ). 0 < n) (eqb c 0x0A) (λ t. omega arith) (λ t. omega arith)

pub size_within : (block : List ℕ) → line_size block ≤ length block
unfolding line_size
size_within [] = omega arith
size_within (c ∷ l) = let r = size_within l in either (λ (n : ℕ). n ≤ suc (length l)) (eqb c 0x0A) (λ t. omega arith) (λ t. omega arith)
