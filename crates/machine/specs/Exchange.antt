-- docs/MONITOR.md, 6 and 7: the code's calls, answers and refusals (machine/src), in the words of the definitions. Assumes nothing: these are
-- definitions.
use Rattle.std.specs.Prelude.{ℕ, Result, Ok, Err}
use Rattle.machine.specs.Numbers.{no_such_call, table_not_sound, no_current, no_such_device, no_such_process, sent_to_oneself, no_free_buffer}
use Rattle.machine.specs.Numbers.{wrong_buffer, wrong_state, device_taken, room_too_short, wrong_list, table_too_short, no_such_semaphore, counter_full}
use Rattle.machine.specs.Machine.{Words, four}
use Rattle.machine.specs.Step.{Answer as Reply, refused}
use Rattle.machine.specs.declared.exchange.Words.{Words as Given}
use Rattle.machine.specs.declared.exchange.Answer.{Answer}
use Rattle.machine.specs.declared.refusal.Refusal.{Refusal}
use Rattle.machine.specs.declared.refusal.Refusal.TheVariants.{NoSuchCall, TableNotSound, NoCurrent, NoSuchDevice, NoSuchProcess, SentToOneself}
use Rattle.machine.specs.declared.refusal.Refusal.TheVariants.{NoFreeBuffer, WrongBuffer, WrongState, DeviceTaken, RoomTooShort, WrongList}
use Rattle.machine.specs.declared.refusal.Refusal.TheVariants.{TableTooShort, NoSuchSemaphore, CounterFull}

-- the four words
abbrev pub words_in : Given → Words
words_in w = four w.w0 w.w1 w.w2 w.w3

-- the answer
abbrev pub said : Answer → Reply
said r = record { number = r.number; kind = r.kind; buffer = r.buffer; current = r.current; words = words_in r.words }

-- the number of a refusal
abbrev pub number_of : Refusal → ℕ
number_of NoSuchCall = no_such_call
number_of TableNotSound = table_not_sound
number_of NoCurrent = no_current
number_of NoSuchDevice = no_such_device
number_of NoSuchProcess = no_such_process
number_of SentToOneself = sent_to_oneself
number_of NoFreeBuffer = no_free_buffer
number_of WrongBuffer = wrong_buffer
number_of WrongState = wrong_state
number_of DeviceTaken = device_taken
number_of RoomTooShort = room_too_short
number_of WrongList = wrong_list
number_of TableTooShort = table_too_short
number_of NoSuchSemaphore = no_such_semaphore
number_of CounterFull = counter_full

-- the number that comes of asking: 0 where nothing refuses
abbrev pub asked : {A : Type 0} → Result A Refusal → ℕ
asked (Ok _) = 0
asked (Err refusal) = number_of refusal

-- what comes back of a call that is answered or refused
abbrev pub replied : Result Answer Refusal → Reply
replied (Ok answer) = said answer
replied (Err refusal) = refused (number_of refusal)
