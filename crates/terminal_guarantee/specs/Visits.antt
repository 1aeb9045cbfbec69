-- Lines among the calls: what is promised of every list of scans, writes and restarts is promised of lists with lines.
use Rattle.std.specs.Prelude.{List, ℕ, ◌≤◌, ◌<◌, ℤ, length}
use Rattle.signals.specs.declared.Input.{Input}
use Rattle.rights.specs.declared.Writer.{Writer}
use Rattle.controller.specs.Answers.{Response}
use Rattle.controller.specs.declared.CallResult.{CallResult}
use Rattle.controller.specs.declared.Controller.{Controller}
use Rattle.controller.specs.declared.ScanResult.{ScanResult}
use Rattle.guarantee.specs.Demand.{Demand3}
use Rattle.guarantee.specs.Exact as calls
use Rattle.guarantee.specs.Exact.{Call, scan, write, restart, Calls}
use Rattle.guarantee.specs.Linked.{FreshEnsures, ScanEnsures, WriteEnsures, RestartEnsures, Slice, MutSlice, Lifetime, Linked, Ready}
use Rattle.terminal.specs.declared.LineResult.{LineResult}
use Rattle.terminal_guarantee.specs.Forms.{a_write, Asks}
use Rattle.terminal_guarantee.specs.Lines.{Lifetimes, LineEnsures, LineReady}

-- ---- lists with lines, the latest last

pub data Event : Type 0 where
  call : Call → Event
  -- who typed it, a line's bytes, and how many bytes the reply buffer has
  line : Writer → List ℕ → ℕ → Event

infixl 20 ◌then◌
pub data Events : Type 0 where
  none : Events
  ◌then◌ : Events → Event → Events

-- after these, by the contracts of the calls and of a line, the controller is this one
pub data Visited (word : ℕ) : Events → Controller → Type 0 where
  started : (r : Controller) → FreshEnsures word r → Visited word none r
  scanned : {es : Events} {c : Controller} (i : Input) (r : ScanResult) → Visited word es c → ScanEnsures c i r →
      Visited word (es then call (scan i)) r.controller
  wrote : {es : Events} {c : Controller} (w : Writer) (n : ℕ) (v : ℤ) (r : CallResult) → Visited word es c → WriteEnsures c w n v r →
      Visited word (es then call (write w n v)) r.controller
  restarted : {es : Events} {c : Controller} (life : Lifetime) (image : Slice) (r : CallResult) → Visited word es c →
      RestartEnsures life c image r → Visited word (es then call (restart image.now)) r.controller
  typed : {es : Events} {c : Controller} (lives : Lifetimes) (w : Writer) (bytes : Slice) (buffer : MutSlice) (r : LineResult)
      (after : List ℕ) →
      Visited word es c → LineEnsures lives c w bytes buffer r after →
      Visited word (es then line w bytes.now (length buffer.now)) r.controller

-- ---- the same calls without lines, told by the lines' bytes

pub data Turned : Events → Calls → Type 0 where
  nothing : Turned none calls.none
  a_call : {es : Events} {xs : Calls} {x : Call} → Turned es xs → Turned (es then call x) (calls.◌then◌ xs x)
  -- a line that writes, with room for the reply, is that write by the one who typed it
  a_write_of : {es : Events} {xs : Calls} {w : Writer} {bytes : List ℕ} {room n : ℕ} {v : ℤ} → Turned es xs → Asks bytes (a_write n v) →
      9 ≤ room → Turned (es then line w bytes room) (calls.◌then◌ xs (write w n v))
  -- any other is no call: the controller is as it was
  no_call : {es : Events} {xs : Calls} {w : Writer} {bytes : List ℕ} {room : ℕ} → Turned es xs →
      ((n : ℕ) (v : ℤ) → Asks bytes (a_write n v) → room < 9) → Turned (es then line w bytes room) xs

-- what is true of a controller that calls and lines lead to: calls alone lead to it, all of demand 3 holds of it, and
-- no call and no line is shut out by a `requires`. The responses are those of the calls, that of each line's write
-- among them: the contracts are equations, so there are no others
pub record VisitClaim (word : ℕ) (es : Events) (c : Controller) : Type 0 where
  pub without : Calls
  pub turned : Turned es without
  pub responses : List Response
  pub linked : Linked word without responses c
  pub guaranteed : Demand3 word without responses c
  pub ready : Ready c
  pub line_ready : LineReady c

-- of every switch word and every list
abbrev pub LinesAreWrites : Type 0
LinesAreWrites = (word : ℕ) (es : Events) (c : Controller) → Visited word es c → VisitClaim word es c

-- there is such a controller for every list: what is said of lists is said of something
pub record Visit (word : ℕ) (es : Events) : Type 0 where
  pub last : Controller
  pub visited : Visited word es last

abbrev pub AlwaysVisited : Type 0
AlwaysVisited = (word : ℕ) (es : Events) → Visit word es
