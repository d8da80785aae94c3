-- A buffer that is taken out of an event queue: what may be done to it then. Assumes nothing.
use Prim.Native.Nat.{ℕ}
use native.Mathlib.Omega.{arith}
use mathlib.Core.Path.{refl}
use Rattle.machine.specs.Queue.{Range}
use Rattle.machine.specs.Machine.{Machine, standing}
use Rattle.machine.specs.Moves.{unlink}
use Rattle.machine.specs.Legal.{Stands}
use Rattle.lists.proofs.Links.{cases}
use Rattle.laws.proofs.Mark.{loose_unlink}
use Rattle.table.specs.Fits.{InNoQueue, MayUnlink, MayTake}
use Rattle.table.proofs.LegalFits.{legal_unlink}

module _ {m : Machine} {p b : ℕ} (h : MayTake p b m) where
  taken_stands : Stands m p b
  taken_stands = (h.legal.events p h.process).only b h.stands

  pub taken_is : Range m.B b
  taken_is = taken_stands.0

  pub taken_unlinks : MayUnlink p b m
  taken_unlinks = legal_unlink h.legal p h.process b h.stands

  -- out of that queue it is in no other
  pub taken_is_out : InNoQueue b (unlink p b m)
  taken_is_out =
      let L = h.legal in
      record {
        is = taken_is;
        out = λ k i j. (((loose_unlink L p taken_stands.1).exact k i).only b j).1 refl;
        owned = (L.fixed.owned b taken_is).1;
        received = cases (standing m b) 0 (λ e. omega (arith, ((L.buffer b taken_is).free e).0)) (λ n. ((L.buffer b taken_is).taken n).0.1);
      }
