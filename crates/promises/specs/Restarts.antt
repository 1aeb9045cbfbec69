-- What is promised of a start, fresh or by an image, over the contracts of `Controller::fresh` and
-- `Controller::restart`. An image is told by the places of its bytes, its parameters by the columns of the table.
-- Shared with the rules are the types of the state, the value of a parameter, and the words of Shared.antt (guarantee).
use Rattle.std.specs.Prelude.{◌≡◌, Bool, true, false, not, ◌&&◌, ◌||◌, List, [], ◌∷◌, ℕ, zero, suc, ◌+◌, ◌-◌, ◌*◌, ◌≤◌, leb, ltb, eqb, ℤ}
use Rattle.std.specs.Prelude.{pos, ◌*ℤ◌, ◌-ℤ◌, length, get_or, if◌then◌else◌, None}
use Rattle.std.specs.Int.Signed.{le_z}
use Rattle.integers.specs.Limit.{limited}
use Rattle.signals.specs.Refusals.{Verdict}
use Rattle.signals.specs.Bits.{bit}
use Rattle.modes.specs.declared.Request.{Request}
use Rattle.modes.specs.declared.Request.TheVariants.{Manual, Auto, Remote}
use Rattle.parameters.specs.Table.{value}
use Rattle.outputs.specs.declared.History.TheVariants.{Nothing}
use Rattle.controller.specs.Answers.{Reply, acceptance, number, reply_of_verdict}
use Rattle.controller.specs.declared.CallResult.{CallResult}
use Rattle.controller.specs.declared.Controller.{Controller}
use Rattle.guarantee.specs.Bytes.{word_at, sum_right}
use Rattle.guarantee.specs.Linked.{FreshEnsures, RestartEnsures, Slice, Lifetime}
use Rattle.promises.specs.Table.{among, least, most, in_order, default}

abbrev pub Accepts : Verdict → Type 0
Accepts r = reply_of_verdict r ≡ acceptance

-- ---- when an image is refused, told by its bytes

-- at this place stand a tag and a two-byte length
abbrev pub header_at : List ℕ → ℕ → ℕ → ℕ → Bool
header_at image place tag size = eqb (get_or image place 0) tag &&
    (eqb (get_or image (place + 1) 0) 0 && eqb (get_or image (place + 2) 0) size)

-- so many tags from this one on, one every five bytes, tag 1 at byte 0; then 41h, 42h, 43h, 44h and 7Fh
unfoldable pub headers_from : List ℕ → ℕ → ℕ → Bool
headers_from image tag zero =
    header_at image 115 0x41 2 && (header_at image 120 0x42 1
    && (header_at image 124 0x43 1 && (header_at image 128 0x44 1 && header_at image 132 0x7F 2)))
headers_from image tag (suc many) = header_at image (5 * (tag - 1)) tag 2 && headers_from image (suc tag) many

-- every tag and length right
unfoldable pub headers_right : List ℕ → Bool
headers_right image = headers_from image 1 23

-- the value that the image holds for the parameter n: "two bytes, two's complement"
unfoldable pub parameter_at : List ℕ → ℕ → ℤ
parameter_at image n = let w = word_at image (5 * (n - 1) + 3) in if ltb w 32768 then pos w else pos w -ℤ pos 65536

-- "Legal: ranges and pairs above": of so many values from the number n on
unfoldable pub legal_from : (ℕ → ℤ) → ℕ → ℕ → Bool
legal_from v n zero = true
legal_from v n (suc many) = ((le_z (least v n) (v n) && le_z (v n) (most v n)) && in_order v n) && legal_from v (suc n) many

-- parameters 1 to 23
unfoldable pub parameters_legal : List ℕ → Bool
parameters_legal image = legal_from (parameter_at image) 1 23

-- "OP 0..9999, request 0..2, fault 0 or 1 and 1 only with request 0, 44h 0..7": bytes 118, 123, 127 and 131
unfoldable pub others_legal : List ℕ → Bool
others_legal image =
    leb (word_at image 118) 9999 && leb (get_or image 123 0) 2
    && (leb (get_or image 127 0) 1 && (eqb (get_or image 127 0) 0 || eqb (get_or image 123 0) 0)) && leb (get_or image 131 0) 7

-- "Sound: every tag and length right, the sumcheck right, all values legal.": of 137 bytes
unfoldable pub sound : List ℕ → Bool
sound image = eqb (length image) 137 && headers_right image && sum_right image && (parameters_legal image && others_legal image)

-- "12 length not 137; 13 a wrong tag or length; 14 right sumcheck, illegal value"; else it is accepted,
-- with a wrong sumcheck too
unfoldable pub answer_to : List ℕ → Reply
answer_to image =
    if not (eqb (length image) 137) then number 12 else
    if not (headers_right image) then number 13 else
    if sum_right image && not (parameters_legal image && others_legal image) then number 14 else acceptance

abbrev pub RestartAnswers : Type 0
RestartAnswers =
    (life : Lifetime) (d : Controller) (image : Slice) (j : CallResult) → RestartEnsures life d image j →
    reply_of_verdict j.verdict ≡ answer_to image.now

-- ---- what every start leaves, of the next controller n

-- "A fresh start and an accepted restart leave pins 80h, no buttons, open count 0, PV = 1L, SP = SL, ER = PV - SP, MP
-- 0, battery good, no alarms"; a fresh one "no earlier PV or SP remembered", and by a restart "All earlier PV and SP
-- are forgotten."; document 02, request 2: "Until a scan is accepted after a fresh start or a restart, any reading is
-- taken."
pub record StartState (n : Controller) : Type 0 where
  pub pins : n.core.conditions.pins ≡ 0x80
  pub opencount : n.core.conditions.opencount ≡ 0
  pub buttons : n.core.indications.buttons ≡ 0
  pub battery : n.core.indications.batterylow ≡ false
  pub low_alarm : n.core.indications.lowalarm ≡ false
  pub high_alarm : n.core.indications.highalarm ≡ false
  pub pv : n.core.readings.pv ≡ value n.core.parameters 2
  pub sp : n.core.readings.sp ≡ value n.core.parameters 20
  pub er : n.core.readings.er ≡ n.core.readings.pv -ℤ n.core.readings.sp
  pub mp : n.core.readings.mp ≡ pos 0
  pub history : n.core.history ≡ Nothing
  pub clock : n.core.clock ≡ None

-- "start fresh (any 16-bit switch word SW)": "A fresh controller has the defaults in the table. .. requests Manual
-- with output 0, user bits and MD bit 4 zero, no memory fault"
pub record FreshState (word : ℕ) (n : Controller) : Type 0 where
  pub start : StartState n
  pub sw : n.core.sw ≡ word
  pub parameters : (k : ℕ) → 1 ≤ k → k ≤ 23 → value n.core.parameters k ≡ default k
  pub request : n.core.conditions.request ≡ Manual
  pub fault : n.core.conditions.fault ≡ false
  pub user1 : n.core.userbits.user1 ≡ false
  pub user2 : n.core.userbits.user2 ≡ false
  pub measured_power : n.core.userbits.measuredpower ≡ false
  pub output : n.output ≡ pos 0

abbrev pub FreshStarts : Type 0
FreshStarts = (word : ℕ) (n : Controller) → FreshEnsures word n → FreshState word n

-- "Restart keeps SW", of the controller d that it was given
pub record RestartState (d n : Controller) : Type 0 where
  pub start : StartState n
  pub sw : n.core.sw ≡ d.core.sw

abbrev pub RestartLeaves : Type 0
RestartLeaves =
    (life : Lifetime) (d : Controller) (image : Slice) (j : CallResult) → RestartEnsures life d image j → Accepts j.verdict →
    RestartState d j.controller

-- ---- what an accepted restart takes of an image with the right sumcheck

-- "42h request (one: 0 M, 1 A, 2 R)"; of a legal one
abbrev pub request_for : ℕ → Request
request_for code =
    if eqb code 0 then Manual else
    if eqb code 1 then Auto else Remote

-- "Restart .. takes the rest, OP limited to LO..HO; S2.5 ON makes the request Manual and OP minimum": SW bit 11; "LO,
-- or .. HO with S2.2 ON", SW bit 14; a unit is 65,536 of the stored output
pub record Taken (image : List ℕ) (d n : Controller) : Type 0 where
  pub parameters : (k : ℕ) → 1 ≤ k → k ≤ 23 → value n.core.parameters k ≡ parameter_at image k
  pub fault : n.core.conditions.fault ≡ eqb (get_or image 127 0) 1
  pub request : n.core.conditions.request ≡ (if bit d.core.sw 11 then Manual else request_for (get_or image 123 0))
  pub user1 : n.core.userbits.user1 ≡ bit (get_or image 131 0) 0
  pub user2 : n.core.userbits.user2 ≡ bit (get_or image 131 0) 1
  pub measured_power : n.core.userbits.measuredpower ≡ bit (get_or image 131 0) 2
  pub output : let low = parameter_at image 16 in let high = parameter_at image 15 in
      n.output ≡
      (if bit d.core.sw 11 then (if bit d.core.sw 14 then high else low) else limited low high (pos (word_at image 118)))
      *ℤ pos 65536

abbrev pub RightSumTakes : Type 0
RightSumTakes =
    (life : Lifetime) (d : Controller) (image : Slice) (j : CallResult) → RestartEnsures life d image j → Accepts j.verdict →
    sum_right image.now ≡ true →
    Taken image.now d j.controller

-- ---- what a wrong sumcheck brings

-- "HO 9999, LO 0 ..; of parameters 1 to 23 save SL and RS a value out of its range takes its default"
unfoldable pub ranged : List ℕ → ℕ → ℤ
ranged image n =
    let v = parameter_at image in
    if among n (15 ∷ []) then pos 9999 else
    if among n (16 ∷ []) then pos 0 else
    if le_z (least v n) (v n) && le_z (v n) (most v n) then v n else default n

-- "then a pair out of order both"
unfoldable pub paired : List ℕ → ℕ → ℤ
paired image n = if in_order (ranged image) n then ranged image n else default n

-- "then SL and RS as carried are limited": SL is number 20, between LS, 10, and HS, 9; RS is 21, between LR, 8, and
-- HR, 7
unfoldable pub repaired_value : List ℕ → ℕ → ℤ
repaired_value image n =
    if among n (20 ∷ []) then limited (paired image 10) (paired image 9) (parameter_at image 20) else
    if among n (21 ∷ []) then limited (paired image 8) (paired image 7) (parameter_at image 21) else paired image n

-- "brings the memory fault .. request Manual, .. OP minimum": "LO, or .. HO with S2.2 ON"; "an illegal 44h is 0",
-- which is byte 131; and the parameters are legal whatever the image holds
pub record Repaired (image : List ℕ) (d n : Controller) : Type 0 where
  pub fault : n.core.conditions.fault ≡ true
  pub request : n.core.conditions.request ≡ Manual
  pub parameters : (k : ℕ) → 1 ≤ k → k ≤ 23 → value n.core.parameters k ≡ repaired_value image k
  pub output : n.output ≡ (if bit d.core.sw 14 then pos 9999 else pos 0) *ℤ pos 65536
  pub user1 : n.core.userbits.user1 ≡ (leb (get_or image 131 0) 7 && bit (get_or image 131 0) 0)
  pub user2 : n.core.userbits.user2 ≡ (leb (get_or image 131 0) 7 && bit (get_or image 131 0) 1)
  pub measured_power : n.core.userbits.measuredpower ≡ (leb (get_or image 131 0) 7 && bit (get_or image 131 0) 2)
  pub legal : legal_from (value n.core.parameters) 1 23 ≡ true

abbrev pub WrongSumRepairs : Type 0
WrongSumRepairs =
    (life : Lifetime) (d : Controller) (image : Slice) (j : CallResult) → RestartEnsures life d image j → Accepts j.verdict →
    sum_right image.now ≡ false →
    Repaired image.now d j.controller
