-- A pass over the tape: what was done and found so far, and what is left. Assumes nothing.
use mathlib.Core.Bool.{Bool, false, ◌||◌, or-false}
use mathlib.Core.List.{List, [], ◌∷◌, ◌++◌, append-nil, append_assoc}
use mathlib.Core.Path.{◌≡◌, refl, sym, ◌∙◌}
use Prim.Native.Nat.{ℕ, suc, ◌+◌, ◌-◌, ◌≤◌, ◌<◌}
use native.Mathlib.Omega.{arith}
use lib.ListN.{length, get_or, set, take, drop, length-append}
use lib.Seq.{sets, take-nil}
use Rattle.std.specs.Prelude.{Ok, Err}
use Rattle.tape.specs.Parity.{treated}
use Rattle.tape.specs.Character.{character}
use Rattle.tape.specs.Tape.{Run, Stops, Runs, onward, by_met, run}
use Rattle.tape.specs.Promise.{number_of_refusal, whole, Based, Sees, PutsByte, TellsAndStores}
use Rattle.tape.specs.declared.numbers.Refusal.{Refusal}
use Rattle.tape.specs.declared.character.Kind.TheVariants.{Delivered, Skipped, Ended}
use Rattle.tape.specs.declared.passes.Passed.{Passed}
use Rattle.tape.proofs.Runs.{puts, onward_onward, run_goes, run_full, run_empty}

pub record Running (mode : ℕ) (table area₀ : List ℕ) (full : ℕ) (tape : List ℕ) (o : Run) (area : List ℕ) (stored read b : ℕ) (flag : Bool) : Type 0 where
  pub done : List ℕ
  pub as_long : length area ≡ length area₀
  pub based : Based b
  pub size : stored ≡ length done
  pub few : stored ≤ length area₀
  pub goes : o ≡ onward done read flag (run mode table (whole b) (length area₀ - stored) (drop read tape))
  pub puts : (l : List ℕ) → sets area₀ 0 (take full (done ++ l)) ≡ sets area stored (take (full - stored) l)

abbrev pub pass_of : ℕ → ℕ → ℕ → Bool → Passed
pass_of stored read base flag = record { stored = stored; read = read; base = base; parity = flag }

module _ {mode : ℕ} {table area₀ : List ℕ} {full : ℕ} {tape : List ℕ} {o : Run} {area : List ℕ} {stored read b : ℕ} {flag : Bool}
    (r : Running mode table area₀ full tape o area stored read b flag) where
  area_is : area ≡ sets area₀ 0 (take full r.done)
  area_is = sym (rw (append-nil r.done, take-nil (full - stored)) at (r.puts []))

  area_stays : full ≡ 0 → area ≡ area₀
  area_stays z = area_is ∙ rw z

  -- where the pass ends here, with n bytes more read
  running_stays : {read' b' n : ℕ} → run mode table (whole b) (length area₀ - stored) (drop read tape) ≡ Runs [] n (whole b') false
      → Based b' → read' ≡ read + n
      → TellsAndStores o area₀ full area (Ok (pass_of stored read' b' flag))
  running_stays {read'} {b'} {n} e h f =
      let g : o ≡ Runs r.done (read + n) (whole b') (flag || false) = r.goes ∙ rw (e, append-nil r.done) in
      record {
        tells = rw g (r.size, f, refl, sym (or-false flag), h);
        as_long = r.as_long;
        few = rw g (omega (arith, r.size, r.few));
        none = area_stays;
        stored = rw g area_is;
      }

  -- the area is full, or the tape is used up
  pub running_full : stored ≡ length area → TellsAndStores o area₀ full area (Ok (pass_of stored read b flag))
  running_full h =
      running_stays (run_full mode table (whole b) (drop read tape) (length area₀ - stored) (omega (arith, h, r.as_long))) r.based (omega arith)

  pub running_over : length tape ≤ read → TellsAndStores o area₀ full area (Ok (pass_of stored read b flag))
  running_over h = running_stays (run_empty mode table (whole b) tape (length area₀ - stored) read h) r.based (omega arith)

  -- there is room, and a byte
  module _ (n : stored ≡ length area → ⊥) (k : read < length tape) where
    pub some_room : stored < length area
    some_room = omega (arith, n, r.few, r.as_long)

    leads : run mode table (whole b) (length area₀ - stored) (drop read tape)
        ≡ by_met (character mode table (whole b) (get_or tape read 0)) (λ y. run mode table y (length area₀ - stored - 1) (drop (read + 1) tape))
        (λ y. run mode table y (suc (length area₀ - stored - 1)) (drop (read + 1) tape))
    leads = run_goes mode table (whole b) tape (length area₀ - stored) read (omega (arith, some_room, r.as_long)) k

    pub running_stops : {e : Refusal} → Sees (character mode table (whole b) (get_or tape read 0)) (Err e) → TellsAndStores o area₀ full area (Err e)
    running_stops {e} s =
        let g : o ≡ Stops (number_of_refusal e) = r.goes ∙ rw (leads, ← s.means) in
        record { tells = rw g; as_long = r.as_long; few = rw g (omega arith); none = area_stays; stored = tt }

    module _ {base : ℕ} where
      pub running_ends : Sees (character mode table (whole b) (get_or tape read 0)) (Ok (record { kind = Ended; base = base }))
          → TellsAndStores o area₀ full area (Ok (pass_of stored (read + 1) base flag))
      running_ends s = running_stays (leads ∙ rw (← s.means)) s.based refl

      pub running_skips : Sees (character mode table (whole b) (get_or tape read 0)) (Ok (record { kind = Skipped; base = base }))
          → Running mode table area₀ full tape o area stored (read + 1) base flag
      running_skips s =
          let e : suc (length area₀ - stored - 1) ≡ length area₀ - stored = omega (arith, some_room, r.as_long) in
          record {
            done = r.done;
            as_long = r.as_long;
            based = s.based;
            size = r.size;
            few = r.few;
            goes = r.goes
                ∙ rw (leads, ← s.means, e)
                (onward_onward r.done [] read 1 flag false (run mode table (whole base) (length area₀ - stored) (drop (read + 1) tape)) ∙
                rw (append-nil r.done, or-false flag));
            puts = r.puts;
          }

      pub running_more : {v : ℕ} {f flag' : Bool} {area' : List ℕ}
          → Sees (character mode table (whole b) (get_or tape read 0)) (Ok (record { kind = Delivered v f; base = base })) → PutsByte area stored full v area'
          → flag' ≡ (flag || f) → Running mode table area₀ full tape o area' (stored + 1) (read + 1) base flag'
      running_more {v} {f} s p q =
          let e : length area₀ - stored - 1 ≡ length area₀ - (stored + 1) = omega arith in
          record {
            done = r.done ++ (v ∷ []);
            as_long = p.as_long ∙ r.as_long;
            based = s.based;
            size = omega (arith, r.size, length-append r.done (v ∷ []));
            few = omega (arith, some_room, r.as_long);
            goes = r.goes
                ∙ rw (leads, ← s.means, e, q)
                (onward_onward r.done (v ∷ []) read 1 flag f (run mode table (whole base) (length area₀ - (stored + 1)) (drop (read + 1) tape)));
            puts = λ l. rw (append_assoc r.done (v ∷ []) l) (r.puts (v ∷ l) ∙ p.stored l);
          }

-- ---- without a table each byte is stored, and the base stays
module _ {mode : ℕ} {area₀ tape : List ℕ} {o : Run} {area : List ℕ} {i b : ℕ} (r : Running mode [] area₀ (length area₀) tape o area i i b false) where
  -- the byte is delivered as the character that it is
  sees_plain : (byte : ℕ) {v : ℕ} → v ≡ treated mode byte → Sees (character mode [] (whole b) byte) (Ok (record { kind = Delivered v false; base = b }))
  unfolding character
  sees_plain byte e = record { means = rw e; based = r.based }

  pub running_plain : {v : ℕ} → v ≡ treated mode (get_or tape i 0) → i < length area → i < length tape
      → Running mode [] area₀ (length area₀) tape o (set area i v) (i + 1) (i + 1) b false
  running_plain {v} e h k =
      running_more r (λ z. omega arith) k (sees_plain (get_or tape i 0) e) (puts area i (length area₀) v (omega (arith, h, r.as_long))) refl
