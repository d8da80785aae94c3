-- `sound::records::records` meets its contract. The loop's invariant: the processes passed are right with their own buffers, those buffers
-- are counted, the queued ones among them too, and the marks of their names are set. Assumes nothing.
use mathlib.Core.Path.{refl, sym, ◌∙◌}
use native.Mathlib.Omega.{arith}
use Rattle.lists.proofs.Counting.{all_none, all_more, given_none, given_more, count_none}
use Rattle.sound.specs.Records.{owns}
use Rattle.sound.proofs.Marks.{marks_none, marks_more, marks_new}
use Rattle.sound.proofs.RecordLoop.{record_asked, process_fails, own_tells, room, record_fails}
use Rattle.sound.proofs.RecordLoop.{record_holds, records_fail, records_end, records_left}
use Rattle.sound.proofs.records.records.Goals as goal

pub loop-i-init : goal.loop-i-init
loop-i-init c =
    record { given_out = sym (given_none _); few = omega arith; counted = count_none _; right = all_none _; marked = marks_none _ _ refl }

pub returns-then-not-process_legal : goal.returns-then-not-process_legal
returns-then-not-process_legal c =
    let i = c.loop-i.invariant in
    records_fail c.requires _ _ c.loop-i-test.true
    (process_fails (record_asked c.requires _ _ _ c.loop-i-test.true i.given_out i.few i.counted)
    (sym c.process_legal.ensures ∙ c.if-not-process_legal.true))

pub own_record-queued-requires : goal.own_record-queued-requires
own_record-queued-requires c =
    let i = c.loop-i.invariant in
    let m = room (record_asked c.requires _ _ _ c.loop-i-test.true i.given_out i.few i.counted)
    (sym c.process_legal.ensures ∙ c.if-not-process_legal.false) in
    record {
      among = omega arith;
      few_processes = omega arith;
      long = omega arith;
      inside = omega (arith, m);
      few = omega (arith, m);
      so_far = i.counted;
      new = λ z. marks_new _ _ _ _ i.marked c.mark-own_mark.ensures.0 z;
    }

pub returns-then-queued-eq-FAILED : goal.returns-then-queued-eq-FAILED
returns-then-queued-eq-FAILED c =
    let i = c.loop-i.invariant in
    let a = record_asked c.requires _ _ _ c.loop-i-test.true i.given_out i.few i.counted in
    records_fail c.requires _ _ c.loop-i-test.true
    (record_fails a _ (own_tells a _ _ (sym c.process_legal.ensures ∙ c.if-not-process_legal.false) c.own_record-queued.ensures) c.if-queued-eq-FAILED.true)

pub loop-i-preserved : goal.loop-i-preserved
loop-i-preserved c =
    let i = c.loop-i.invariant in
    let a = record_asked c.requires _ _ _ c.loop-i-test.true i.given_out i.few i.counted in
    let h = record_holds a _ (own_tells a _ _ (sym c.process_legal.ensures ∙ c.if-not-process_legal.false) c.own_record-queued.ensures)
    c.if-queued-eq-FAILED.false in
    let o = c.word-before.ensures.0 in
    record {
      given_out = omega (arith, i.given_out, o, given_more (owns c.args.words.now) c.loop-i.i);
      few = omega (arith, h.2, o);
      counted = rw o h.1;
      right = all_more _ _ i.right h.0;
      marked = marks_more _ _ _ _ i.marked c.mark-own_mark.ensures.0 c.mark-own_mark.ensures.1;
    }

pub returns-then-before-buffers : goal.returns-then-before-buffers
returns-then-before-buffers c =
    let i = c.loop-i.invariant in
    records_end c.requires _ _ (omega arith) i.given_out _ c.if-before-buffers.true i.counted i.right

pub returns-else-before-buffers : goal.returns-else-before-buffers
returns-else-before-buffers c = records_left c.requires _ _ (omega arith) c.loop-i.invariant.given_out _ c.if-before-buffers.false
