-- What is promised of saved images, as docs/GUARANTEE.md has it, over the contracts of `Controller::save` and
-- `Controller::restart`. Bytes are told by their places. Shared with the rules are the types of the state, the value
-- of a parameter, and `limited`.
use Rattle.std.specs.Prelude.{◌≡◌, true, false, List, ◌++◌, ℕ, ◌+◌, ◌-◌, ◌*◌, ◌≤◌, ◌<◌, ℤ, pos, nat_abs, ◌*ℤ◌, length, get_or, take, drop}
use Rattle.std.specs.Prelude.{if◌then◌else◌}
use Rattle.std.specs.Int.Signed.{lt_z}
use Rattle.integers.specs.Limit.{limited}
use Rattle.signals.specs.Refusals.{Verdict}
use Rattle.signals.specs.Bits.{bit}
use Rattle.modes.specs.declared.Request.{Request}
use Rattle.modes.specs.declared.Request.TheVariants.{Manual, Auto, Remote}
use Rattle.parameters.specs.Table.{value}
use Rattle.controller.specs.Answers.{Response}
use Rattle.controller.specs.declared.CallResult.{CallResult}
use Rattle.controller.specs.declared.Controller.{Controller}
use Rattle.guarantee.specs.Bytes.{word_at, sum_right}
use Rattle.guarantee.specs.Claim.{OwnOutput}
use Rattle.guarantee.specs.Exact.{Calls}
use Rattle.guarantee.specs.Linked.{SaveEnsures, RestartEnsures, Slice, MutSlice, Lifetime, Linked}
use Rattle.promises.specs.Restarts.{Accepts, headers_right, sound, RestartState}

-- ---- the bytes of a saved image

-- "two's complement"
abbrev pub word_for : ℤ → ℕ
word_for v = if lt_z v (pos 0) then 65536 - nat_abs v else nat_abs v

-- "0 M, 1 A, 2 R"
abbrev pub code_for : Request → ℕ
code_for Manual = 0
code_for Auto = 1
code_for Remote = 2

-- parameter 1 at byte 3, and every five bytes the next; OP, which is our own, at 118; request, fault
-- and 44h at 123, 127 and 131: "bits 0, 1 user bits 1, 2, bit 2 MD bit 4"
pub record SavedBytes (c : Controller) (image : List ℕ) : Type 0 where
  pub size : length image ≡ 137
  pub headers : headers_right image ≡ true
  pub parameters : (n : ℕ) → n < 23 → word_at image (5 * n + 3) ≡ word_for (value c.core.parameters (n + 1))
  pub electrical : ℕ
  pub own : OwnOutput c (word_at image 118) electrical
  pub request : get_or image 123 0 ≡ code_for c.core.conditions.request
  pub fault : get_or image 127 0 ≡ (if c.core.conditions.fault then 1 else 0)
  pub userbits : get_or image 131 0
      ≡ (if c.core.userbits.user1 then 1 else 0) + (if c.core.userbits.user2 then 2 else 0)
      + (if c.core.userbits.measuredpower then 4 else 0)
  pub sum : sum_right image ≡ true

-- "bytes past the 137 stay"
abbrev pub SaveEncodes : Type 0
SaveEncodes =
    (word : ℕ) (calls : Calls) (rs : List Response) (c : Controller) → Linked word calls rs c →
    (life : Lifetime) (buffer : MutSlice) (r : Verdict) (after : List ℕ) → SaveEnsures life c buffer r after → Accepts r →
    SavedBytes c (take 137 after) × (drop 137 after ≡ drop 137 buffer.now)

-- ---- a saved image restarts the settings it was saved from, request and output by the restart rules

-- of an image that was saved from c: what comes back, and what is set
pub record Restored (c d n : Controller) : Type 0 where
  pub state : RestartState d n
  -- parameters 1 to 23, memory fault, user bits and MD bit 4 come back
  pub parameters : n.core.parameters ≡ c.core.parameters
  pub fault : n.core.conditions.fault ≡ c.core.conditions.fault
  pub userbits : n.core.userbits ≡ c.core.userbits
  -- "S2.5 ON makes the request Manual"; with it OFF the request comes back
  pub request : n.core.conditions.request ≡ (if bit d.core.sw 11 then Manual else c.core.conditions.request)
  -- "and OP minimum", "LO, or .. HO with S2.2 ON"; with S2.5 OFF c's OP comes back, "limited to
  -- LO..HO", as whole units. LO is parameter 16 and HO parameter 15
  pub op : ℕ
  pub electrical : ℕ
  pub own : OwnOutput c op electrical
  pub output : let low = value c.core.parameters 16 in let high = value c.core.parameters 15 in
      n.output ≡ (if bit d.core.sw 11 then (if bit d.core.sw 14 then high else low) else limited low high (pos op)) *ℤ pos 65536

-- whatever calls led to c, whatever controller the image is given to, and whatever the buffer's other bytes
abbrev pub SavedRestarts : Type 0
SavedRestarts =
    (word : ℕ) (calls : Calls) (rs : List Response) (c : Controller) → Linked word calls rs c →
    (life : Lifetime) (buffer : MutSlice) (r : Verdict) (after : List ℕ) → SaveEnsures life c buffer r after → Accepts r →
    (later : Lifetime) (d : Controller) (image : Slice) (j : CallResult) → image.now ≡ take 137 after → RestartEnsures later d image j →
    (sound image.now ≡ true) × Accepts j.verdict × Restored c d j.controller

-- ---- a sound image whose output is within its limits, restarted with the power-fail switch off, saves
-- to the same bytes

-- in an image's bytes the values of HO, LO and OP begin at 73, 78 and 118
pub record WithinItsLimits (image : List ℕ) : Type 0 where
  pub least : word_at image 78 ≤ word_at image 118
  pub most : word_at image 118 ≤ word_at image 73

abbrev pub SavesTheSame : Type 0
SavesTheSame =
    (life : Lifetime) (d : Controller) (image : Slice) (j : CallResult) →
    ((k : ℕ) → get_or image.now k 0 < 256) → sound image.now ≡ true → WithinItsLimits image.now → bit d.core.sw 11 ≡ false →
    RestartEnsures life d image j →
    Accepts j.verdict ×
    ((later : Lifetime) (buffer : MutSlice) (r : Verdict) (after : List ℕ) → 137 ≤ length buffer.now →
    SaveEnsures later j.controller buffer r after →
    Accepts r × (after ≡ image.now ++ drop 137 buffer.now))
