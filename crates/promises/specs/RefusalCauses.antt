-- Document 01, "By whose hand a call is declined", and document 02: which scans, writes and reads are refused, and with
-- which number, told by the input's numbers and bits, the writer, the parameter's number, the value and the state, in
-- the papers' order and apart from the rules' lists of tests. Restarts.antt tells it of restarts, and `SameSave`
-- (guarantee) of saves. Shared are the types of the state, the bits of a word and the value of a parameter.
use Rattle.std.specs.Prelude.{◌≡◌, Bool, not, ◌&&◌, ◌||◌, List, [], ◌∷◌, ℕ, ◌+◌, ltb, leb, eqb, ℤ, nat_abs, if◌then◌else◌, Err}
use Rattle.std.proofs.Math.Option.{Option, some, none}
use Rattle.std.specs.Int.Signed.{le_z}
use Rattle.signals.specs.Clock.{ClockReading}
use Rattle.signals.specs.Bits.{bit}
use Rattle.signals.specs.declared.Input.{Input}
use Rattle.signals.specs.declared.Refusal.{Refusal}
use Rattle.signals.specs.declared.Refusal.TheVariants.{Sample, ButtonBits, SensorBits, Number, ReadOnly, Range, Pair, Setpoint}
use Rattle.signals.specs.declared.Refusal.TheVariants.{RequestBits, RemotePin, Cause, ImageLength, ImageField, ImageValue}
use Rattle.signals.specs.declared.Refusal.TheVariants.{ShortBuffer, Clock, Mnemonic, ValueForm, ComputerPin, WriterRight}
use Rattle.signals.proofs.U8FromRefusal.from.Reads as number-reads
use Rattle.parameters.specs.Table.{value}
use Rattle.rights.specs.declared.Writer.{Writer}
use Rattle.controller.specs.Answers.{number, reply_of, reply_of_verdict, reply_of_read, ReadAnswer}
use Rattle.controller.specs.declared.CallResult.{CallResult}
use Rattle.controller.specs.declared.Controller.{Controller}
use Rattle.controller.specs.declared.Core.{Core}
use Rattle.controller.specs.declared.ScanResult.{ScanResult}
use Rattle.guarantee.specs.Clock.{too_soon}
use Rattle.guarantee.specs.Linked.{ScanEnsures, WriteEnsures, ReadEnsures, RestartEnsures, Slice, Lifetime}
use Rattle.guarantee.specs.Modes.{mode_in, automatic_mode}
use Rattle.guarantee.specs.Rights.{access_or}
use Rattle.promises.specs.Refusals.{refusal_in}
use Rattle.promises.specs.Table.{least, most, in_order}
use Rattle.promises.specs.Words.{remote_or_ratio}

-- "Plant: 1 a sample above 10000; 2 button bits 5 or 4 set; 3 sensor bits above 1 set.": a byte above 3. Document 02,
-- request 2: "16 when the reading is less than 30 ms after the last accepted one or lies before it, tested after 3."
unfoldable pub scan_refusal : ClockReading → Input → Option ℕ
scan_refusal last i =
    if ltb 10000 i.sample1 || ltb 10000 i.sample2 || ltb 10000 i.sample3 then some 1 else
    if bit i.buttons 5 || bit i.buttons 4 then some 2 else
    if ltb 3 i.sensors then some 3 else
    if too_soon last i.milliseconds then some 16 else none

-- of every controller that the contract gives a result of, as of each valid one, reached by calls or not
abbrev pub ScanRefusals : Type 0
ScanRefusals =
    (d : Controller) (i : Input) (r : ScanResult) → ScanEnsures d i r →
    refusal_in (reply_of r.answer) ≡ scan_refusal d.core.clock i

-- ---- writes, in the state c

-- the values with v in the place of the number n
abbrev pub replaced : (ℕ → ℤ) → ℕ → ℤ → ℕ → ℤ
replaced values n v m = if eqb m n then v else values m

-- "8 SL in Remote, Ratio, or with S2.6 ON in a non-automatic mode", SW bit 10
unfoldable pub setpoint_refused : Core → Bool
setpoint_refused c = remote_or_ratio (mode_in c) || bit c.sw 10 && not (automatic_mode (mode_in c))

-- "9 not exactly one of MD bits 13, 12, 11": how many of them are set
unfoldable pub request_bits : ℕ → ℕ
request_bits word = (if bit word 13 then 1 else 0) + (if bit word 12 then 1 else 0) + (if bit word 11 then 1 else 0)

-- "10 bit 11 with the Remote pin 0", pin bit 5; "11 bit 12 or 11 when a cause would remain": the memory fault, which
-- bit 8 zero clears, or 85 open scans
unfoldable pub word_refusal : Core → ℕ → Option ℕ
word_refusal c word =
    if not (eqb (request_bits word) 1) then some 9 else
    if bit word 11 && not (bit c.conditions.pins 5) then some 10 else
    if (bit word 12 || bit word 11) && (c.conditions.fault && bit word 8 || leb 85 c.conditions.opencount) then some 11 else none

-- "6 out of range; 7 pair out of order", with the value in its place; SL is number 20 and MD 24, whose word is the
-- value
unfoldable pub value_refusal : Core → ℕ → ℤ → Option ℕ
value_refusal c n v =
    let values = value c.parameters in
    if not (le_z (least values n) v && le_z v (most values n)) then some 6 else
    if not (in_order (replaced values n v) n) then some 7 else
    if eqb n 20 then (if setpoint_refused c then some 8 else none) else
    if eqb n 24 then word_refusal c (nat_abs v) else none

-- what is refused whatever the value, by the writer, the number and the stored pins (`access_or`, guarantee), and after
-- it what is refused for the value
abbrev pub write_refusal : Core → Writer → ℕ → ℤ → Option ℕ
write_refusal c w n v = access_or c.conditions.pins w n (value_refusal c n v)

-- of every controller that the contract gives a result of, as of each valid one, reached by calls or not
abbrev pub WriteRefusals : Type 0
WriteRefusals =
    (d : Controller) (w : Writer) (n : ℕ) (v : ℤ) (r : CallResult) → WriteEnsures d w n v r →
    refusal_in (reply_of_verdict r.verdict) ≡ write_refusal d.core w n v

-- ---- reads: "4 number outside 1..32 (reads too)"

abbrev pub ReadRefusals : Type 0
ReadRefusals =
    (d : Controller) (n : ℕ) (r : ReadAnswer) → ReadEnsures d n r →
    refusal_in (reply_of_read r) ≡ (if eqb n 0 || ltb 32 n then some 4 else none)

-- ---- the number that a caller gets of a refusal

-- by the contract of `u8::from` it is the one that the refusal stands for in these statements
abbrev pub NumberEnsures : Refusal → ℕ → Type 0
NumberEnsures refusal n = number-reads.Post tt (refusal, tt) n (refusal, tt)

abbrev pub RefusalNumbers : Type 0
RefusalNumbers =
    (refusal : Refusal) (n : ℕ) → NumberEnsures refusal n →
    (reply_of (Err refusal) ≡ number n) × (reply_of_verdict (Err refusal) ≡ number n) ×
    (reply_of_read (Err refusal) ≡ number n)

-- the refusals by their names, in the order of the papers' numbers, from 1 on
abbrev pub in_order_of_numbers : List Refusal
in_order_of_numbers =
    Sample ∷ ButtonBits ∷ SensorBits ∷ Number ∷ ReadOnly ∷ Range ∷ Pair ∷ Setpoint ∷ RequestBits ∷ RemotePin ∷ Cause
    ∷ ImageLength ∷ ImageField ∷ ImageValue ∷ ShortBuffer ∷ Clock ∷ Mnemonic ∷ ValueForm ∷ ComputerPin ∷ WriterRight ∷ []

-- a caller gets of each the number of its place
abbrev pub NumberedFrom : ℕ → List Refusal → Type 0
NumberedFrom k [] = Unit {0}
NumberedFrom k (refusal ∷ refusals) = ((n : ℕ) → NumberEnsures refusal n → n ≡ k) × NumberedFrom (k + 1) refusals

abbrev pub RefusalNames : Type 0
RefusalNames = NumberedFrom 1 in_order_of_numbers

-- ---- what a refused call leaves

-- "Controller and buffers stay.": of a refused restart, write or scan
abbrev pub RefusedStays : Type 0
RefusedStays =
    ((life : Lifetime) (d : Controller) (image : Slice) (j : CallResult) (n : ℕ) → RestartEnsures life d image j →
    reply_of_verdict j.verdict ≡ number n → j.controller ≡ d) ×
    ((d : Controller) (w : Writer) (p : ℕ) (v : ℤ) (j : CallResult) (n : ℕ) → WriteEnsures d w p v j →
    reply_of_verdict j.verdict ≡ number n → j.controller ≡ d) ×
    ((d : Controller) (i : Input) (r : ScanResult) (n : ℕ) → ScanEnsures d i r → reply_of r.answer ≡ number n → r.controller ≡ d)
