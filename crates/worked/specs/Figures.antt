-- Document 01, "Worked by hand (all to be proved)": one list of statements about the rules, in the paper's order, with
-- what document 02 makes of them. Further figures, which are ours, stand in two lists of their own behind it.
-- proofs/Worked.antt proves them all.
use Rattle.std.specs.Prelude.{◌≡◌, true, false, List, [], ◌∷◌, ℕ, zero, suc, ℤ, pos, neg_ℤ, ◌*ℤ◌, drop, Some}
use Rattle.signals.specs.declared.Input.{Input}
use Rattle.modes.specs.Modes.{is_cause, counted, open_count_after}
use Rattle.modes.specs.declared.Conditions.{Conditions}
use Rattle.modes.specs.declared.Mode.TheVariants.{Auto}
use Rattle.modes.specs.declared.Request.TheVariants as request
use Rattle.words.specs.Words.{MD, DS}
use Rattle.rights.specs.declared.Writer.TheVariants.{Engineer}
use Rattle.scaling.specs.Ratio.{ratio_quotient, inverse_quotient}
use Rattle.scaling.specs.Root.{root_of}
use Rattle.scaling.specs.Scale.{scaled}
use Rattle.terms.specs.Fraction.{Fraction, Positive, whole}
use Rattle.terms.specs.Terms.{proportional_term, integral_term, derivative_term, limited_term, stored_term}
use Rattle.terms.specs.declared.Tuning.{Tuning}
use Rattle.outputs.specs.Instruction.{Change, add_terms, exact_arithmetic, changed}
use Rattle.outputs.specs.declared.History.TheVariants.{One, Two}
use Rattle.controller.specs.Answers.{words, number}
use Rattle.controller.specs.Save.{saved_image}
use Rattle.controller.specs.Scan.{scan}
use Rattle.controller.specs.State.{start_indications, fresh_controller}
use Rattle.controller.specs.Write.{write}
use Rattle.controller.specs.declared.Controller.{Controller}

-- every statement of a list holds
abbrev pub AllHold : List (Type 0) → Type 0
AllHold [] = Unit
AllHold (figure ∷ figures) = figure × AllHold figures

-- two fractions of one value
abbrev pub Equal : Fraction → Fraction → Type 0
Equal f g = Positive f × Positive g × (f.numerator *ℤ pos g.denominator ≡ g.numerator *ℤ pos f.denominator)

-- "With XP 1000, W 1000, S2.8 and S2.4 OFF", and TI and TD as each figure has them
abbrev pub example : ℕ → ℕ → Tuning
example ti td = record { xp = 1000; span = 1000; ti = ti; td = td; minutes = false; inverted = false }

-- the count that so many consecutive open scans leave
abbrev pub after_open_scans : ℕ → ℕ
after_open_scans zero = 0
after_open_scans (suc n) = open_count_after counted true (after_open_scans n)

-- request A, no cause, these pins; the mode that they give is Auto
abbrev pub in_auto : ℕ → Conditions
in_auto pins = record { request = request.Auto; fault = false; opencount = 0; pins = pins }

unfoldable pub figures : List (Type 0)
figures =
    -- "c - c1 = 1 gives 10 units"
    Equal (limited_term (proportional_term (example 0 0) (pos 1))) (whole (pos 10))
    -- "c = 1, TI 10 gives 0.36 units, 23,593 stored"
    ∷ Equal (limited_term (integral_term (example 10 0) (pos 1))) (record { numerator = pos 36; denominator = 100 })
    ∷ (stored_term (integral_term (example 10 0) (pos 1)) ≡ pos 23593)
    -- "D = 1, TD 10 gives -18,204,444 stored"
    ∷ (stored_term (derivative_term (example 0 10) (pos 1)) ≡ neg_ℤ (pos 18204444))
    -- "D = 100 gives -10,000 units"
    ∷ Equal (limited_term (derivative_term (example 0 10) (pos 100))) (whole (neg_ℤ (pos 10000)))
    -- "Range 0..1: sample 4999 is 0, 5000 is 1."
    ∷ (scaled (pos 0) (pos 1) 4999 ≡ pos 0)
    ∷ (scaled (pos 0) (pos 1) 5000 ≡ pos 1)
    -- "q 101, s 200 gives 51; -101 gives -51", of which document 02, request 5: "the hand-worked 51 and -51 of document
    -- 01 become 50 and -50", and "q 103 is 52"
    ∷ (ratio_quotient (pos 101) 200 ≡ pos 50)
    ∷ (ratio_quotient (neg_ℤ (pos 101)) 200 ≡ neg_ℤ (pos 50))
    ∷ (ratio_quotient (pos 103) 200 ≡ pos 52)
    -- "S2.3 ON, q 5, s 150 gives 8"
    ∷ (inverse_quotient (pos 5) 150 ≡ pos 8)
    -- "Open scan 84 isn't a cause, 85 is."
    ∷ (is_cause false (after_open_scans 84) ≡ false)
    ∷ (is_cause false (after_open_scans 85) ≡ true)
    -- "Auto with bit 4 is MD 1010h."
    ∷ (MD Auto (in_auto 0x80) (record { user1 = false; user2 = false; measuredpower = true }) start_indications ≡ 0x1010)
    -- "Pins 91h in Auto, healthy: DS 913Fh."
    ∷ (DS Auto (in_auto 0x91) (record { user1 = false; user2 = false; measuredpower = false }) start_indications ≡ 0x913F)
    -- "Writing 0000h or 1800h to MD: 9.", whatever the state, and the controller stays
    ∷ ((c : Controller) → write c Engineer 24 (pos 0x0000) ≡ record { next = c; answer = number 9 })
    ∷ ((c : Controller) → write c Engineer 24 (pos 0x1800) ≡ record { next = c; answer = number 9 })
    -- "A fresh image's sumcheck is AC42h.", whatever the switch word: the image's last field
    ∷ ((sw : ℕ) → drop 132 (saved_image (fresh_controller sw)) ≡ 0x7F ∷ 0 ∷ 2 ∷ 0xAC ∷ 0x42 ∷ [])
    ∷ []

-- the three terms of a change c - c1, of c and of D
abbrev pub terms_from : Tuning → ℕ → ℕ → ℕ → Change
terms_from t change c d = add_terms (proportional_term t (pos change)) (integral_term t (pos c)) (derivative_term t (pos d))

-- Ours, beside the paper's figures
unfoldable pub further_figures : List (Type 0)
further_figures =
    -- the 10 units and the -10,000 units as they are stored
    (stored_term (proportional_term (example 0 0) (pos 1)) ≡ pos 655360)
    ∷ (stored_term (derivative_term (example 0 10) (pos 100)) ≡ neg_ℤ (pos 655360000))
    -- a term of exactly 10,000 units, one beyond it, and the same below zero: the limit belongs to the range
    ∷ (stored_term (proportional_term (example 0 0) (pos 1000)) ≡ pos 655360000)
    ∷ (stored_term (proportional_term (example 0 0) (pos 1001)) ≡ pos 655360000)
    ∷ (stored_term (proportional_term (example 0 0) (neg_ℤ (pos 1000))) ≡ neg_ℤ (pos 655360000))
    -- c = 6, TI 5 is 283,115.52 stored steps, just above a half: one goes on, on either side of zero
    ∷ (stored_term (integral_term (example 5 0) (pos 6)) ≡ pos 283116)
    ∷ (stored_term (integral_term (example 5 0) (neg_ℤ (pos 6))) ≡ neg_ℤ (pos 283116))
    -- the exact controller's output with the term of 0.36 units and two of 0: "its limited terms are added unrounded"
    ∷ Equal (changed exact_arithmetic (terms_from (example 10 0) 0 1 0) (whole (pos 0))) (record { numerator = pos 36; denominator = 100 })
    -- the manual's roots, 4.3.3: of 0, 0.4, 1.6 and 10 V they are 0, 2, 4 and 10 V
    ∷ (root_of 0 ≡ 0)
    ∷ (root_of 400 ≡ 2000)
    ∷ (root_of 1600 ≡ 4000)
    ∷ (root_of 10000 ≡ 10000)
    -- document 02, request 3: 141 × 141 is 19,881 and 142 × 142 is 20,164; 9999 × 9999 is 99,980,001, one too great
    ∷ (root_of 2 ≡ 141)
    ∷ (root_of 9998 ≡ 9998)
    -- document 02, request 5, with S2.3 ON: 2.5 goes to 2, and -3.5 to -4
    ∷ (inverse_quotient (pos 5) 50 ≡ pos 2)
    ∷ (inverse_quotient (neg_ℤ (pos 7)) 50 ≡ neg_ℤ (pos 4))
    ∷ []

abbrev pub first_scan : Input
first_scan = record { pins = 0x91; sample1 = 5000; sample2 = 0; sample3 = 0; buttons = 2; sensors = 0; milliseconds = 1000 }

-- the controller that it leaves, and a scan at another reading of the clock
unfoldable pub once_scanned : Controller
once_scanned = (scan (fresh_controller 0) first_scan).next

abbrev pub next_scan : ℕ → Input
next_scan milliseconds =
    record { pins = 0x91; sample1 = 5100; sample2 = 0; sample3 = 0; buttons = 0; sensors = 0; milliseconds = milliseconds }

-- started fresh, RS written, and RB 1; a scan in Ratio, R pressed and the Remote pin at 1, whose q is a tenth of the
-- sample
unfoldable pub biased : ℕ → ℕ → Controller
biased sw rs = (write (write (fresh_controller sw) Engineer 21 (pos rs)).next Engineer 22 (pos 1)).next

abbrev pub ratio_scan : ℕ → Input
ratio_scan sample = record { pins = 0xA0; sample1 = 0; sample2 = sample; sample3 = 0; buttons = 4; sensors = 0; milliseconds = 36 }

-- whole scans, which are ours too
unfoldable pub scan_figures : List (Type 0)
scan_figures =
    -- started fresh with SW 0, pins 91h, half of channel 1's range, A pressed
    ((scan (fresh_controller 0) first_scan).answer ≡ words 0x1002 0x913F 0 0 Auto (pos 500))
    -- document 02, request 2: 29 ms after it a scan is refused with 16 and nothing moves; 30 and 42 ms after it one is
    -- ordinary, and two PVs are remembered; 43 ms after it the earlier one is forgotten
    ∷ (scan once_scanned (next_scan 1029) ≡ record { next = once_scanned; answer = number 16 })
    ∷ ((scan once_scanned (next_scan 1030)).next.core.history ≡ Two (pos 510) (pos 0) (pos 500))
    ∷ ((scan once_scanned (next_scan 1042)).next.core.history ≡ Two (pos 510) (pos 0) (pos 500))
    ∷ ((scan once_scanned (next_scan 1043)).next.core.history ≡ One (pos 510) (pos 0))
    -- and its reading is the last
    ∷ ((scan once_scanned (next_scan 1043)).next.core.clock ≡ Some 1043)
    -- document 02, request 5: q 101 with s 200 is 50, and with S2.3 ON q 103 with s 50 is 52; RB is added after
    ∷ ((scan (biased 0x8000 200) (ratio_scan 1010)).next.core.readings.sp ≡ pos 51)
    ∷ ((scan (biased 0xA000 50) (ratio_scan 1030)).next.core.readings.sp ≡ pos 53)
    ∷ []
