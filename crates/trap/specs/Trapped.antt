-- What a call does to the register record: docs/MONITOR.md, 16, "The trap code lends one register record, which the call changes in place".
-- Assumes nothing: these are definitions.
use Rattle.std.specs.Prelude.{◌≡◌, List, ℕ, get_or}
use Rattle.machine.specs.Machine.{Words, four}
use Rattle.machine.specs.Step.{Answer}
use Rattle.monitor.specs.Promise.{Called}
use Rattle.machine.specs.declared.exchange.Call.{Call}
use Rattle.trap.specs.declared.Registers.{Registers}

-- the four words of the call
abbrev pub words : Registers → Words
words registers = four registers.w0 registers.w1 registers.w2 registers.w3

-- the call, as the code has it
abbrev pub call_of : Registers → Call
call_of registers = record {
  number = registers.call;
  a = registers.a;
  b = registers.b;
  words = record { w0 = registers.w0; w1 = registers.w1; w2 = registers.w2; w3 = registers.w3 };
}

-- the answer in its places: number, kind, buffer, current afterwards, four words
abbrev pub answer : Registers → Answer
answer registers = record {
  number = registers.number;
  kind = registers.kind;
  buffer = registers.buffer;
  current = registers.current;
  words = four registers.r0 registers.r1 registers.r2 registers.r3;
}

-- the registers with an answer put into its places: "call, a, b, words go in and stay"
abbrev pub answered : Registers → Answer → Registers
answered before r = record {
  call = before.call;
  a = before.a;
  b = before.b;
  w0 = before.w0;
  w1 = before.w1;
  w2 = before.w2;
  w3 = before.w3;
  number = r.number;
  kind = r.kind;
  buffer = r.buffer;
  current = r.current;
  r0 = r.words.w₀;
  r1 = r.words.w₁;
  r2 = r.words.w₂;
  r3 = r.words.w₃;
}

-- the call that the registers say takes the table t and the room s to u and v, and the registers from before to after
pub record Trapped (t u s v : List ℕ) (before after : Registers) : Type 0 where
  -- nothing but the answer's places changes
  pub stays : after ≡ answered before (answer after)
  -- and what stands there is the call's answer
  pub called : Called t u s v before.call before.a before.b (words before) (answer after)

-- the record lent as its fifteen words
abbrev pub registers : List ℕ → Registers
registers l = record {
  call = get_or l 0 0;
  a = get_or l 1 0;
  b = get_or l 2 0;
  w0 = get_or l 3 0;
  w1 = get_or l 4 0;
  w2 = get_or l 5 0;
  w3 = get_or l 6 0;
  number = get_or l 7 0;
  kind = get_or l 8 0;
  buffer = get_or l 9 0;
  current = get_or l 10 0;
  r0 = get_or l 11 0;
  r1 = get_or l 12 0;
  r2 = get_or l 13 0;
  r3 = get_or l 14 0;
}
