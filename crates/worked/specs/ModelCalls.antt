-- Calls of a reference model that was made apart from the rules, stated of the rules; proofs/ModelCalls.antt proves
-- them. Made by tests/statements/calls.py, which the gate compares with this file.
use Rattle.std.specs.Prelude.{Bool, true, false, List, [], ◌∷◌, ◌≡◌, ℕ, ℤ, pos, neg_ℤ, replicate, None, Some}
use Rattle.signals.specs.Clock.{ClockReading}
use Rattle.signals.specs.Refusals.{refused_by}
use Rattle.signals.specs.declared.Input.{Input}
use Rattle.fields.specs.Fields.{save_tests, saved_in}
use Rattle.modes.specs.declared.Mode.TheVariants.{Hold, Track, Forced, Remote, Ratio, Fallback}
use Rattle.modes.specs.declared.Request.{Request}
use Rattle.modes.specs.declared.Request.TheVariants as request
use Rattle.rights.specs.declared.Writer.TheVariants.{Engineer}
use Rattle.setpoints.specs.declared.Readings.{Readings}
use Rattle.outputs.specs.declared.History.{History}
use Rattle.outputs.specs.declared.History.TheVariants.{Nothing, One, Two}
use Rattle.controller.specs.Answers.{Reply, words, acceptance, reply_by}
use Rattle.controller.specs.Restart.{restart}
use Rattle.controller.specs.Save.{saved_image}
use Rattle.controller.specs.Scan.{scan}
use Rattle.controller.specs.Write.{write}
use Rattle.controller.specs.declared.Controller.{Controller}

abbrev pub readings : ℤ → ℤ → ℤ → ℤ → Readings
readings pv sp er mp = record { pv = pv; sp = sp; er = er; mp = mp }

-- SW, parameters, request, memory fault, user bits 1 and 2, MD bit 4, open count, pins, readings, buttons, battery low,
-- low alarm, high alarm, history, clock, output
abbrev pub state :
    ℕ → List ℤ → Request → Bool → Bool → Bool → Bool → ℕ → ℕ → Readings → ℕ → Bool → Bool → Bool → History → ClockReading → ℤ → Controller
state sw numbers requested fault user1 user2 power opencount pins latest buttons battery low high history clock output =
    record {
      core = record {
        sw = sw;
        parameters = record { values = pos 0 ∷ numbers };
        conditions = record { request = requested; fault = fault; opencount = opencount; pins = pins };
        userbits = record { user1 = user1; user2 = user2; measuredpower = power };
        readings = latest;
        indications = record { buttons = buttons; batterylow = battery; lowalarm = low; highalarm = high };
        history = history;
        clock = clock;
      };
      output = output;
    }

abbrev pub input : ℕ → ℕ → ℕ → ℕ → ℕ → ℕ → ℕ → Input
input pins sample1 sample2 sample3 buttons sensors milliseconds =
    record {
      pins = pins;
      sample1 = sample1;
      sample2 = sample2;
      sample3 = sample3;
      buttons = buttons;
      sensors = sensors;
      milliseconds = milliseconds;
    }

-- a scan, an engineer's write, a restart of the state before it leaves the state after it, and this answer
abbrev pub Scans : Controller → Input → Controller → Reply → Type 0
Scans before i after answer = scan before i ≡ record { next = after; answer = answer }

abbrev pub Writes : Controller → ℕ → ℤ → Controller → Reply → Type 0
Writes before n v after answer = write before Engineer n v ≡ record { next = after; answer = answer }

abbrev pub Restarts : Controller → List ℕ → Controller → Reply → Type 0
Restarts before image after answer = restart before image ≡ record { next = after; answer = answer }

-- a save into so many bytes of 165 gives this answer, and these bytes
abbrev pub Saves : Controller → ℕ → Reply → List ℕ → Type 0
Saves before size answer bytes =
    let buffer = replicate {A = ℕ} size 165 in
    (reply_by (refused_by (save_tests buffer)) ≡ answer) × (saved_in (saved_image before) buffer ≡ bytes)

unfoldable pub model_calls : List (Type 0)
model_calls =
    -- scan: Ratio after a gap: earlier PV and SP forgotten after the terms, or PV alone; RS + trim not limited; SP not limited
    Scans (state 47402 (neg_ℤ (pos 1195) ∷ neg_ℤ (pos 4566) ∷ neg_ℤ (pos 512) ∷ neg_ℤ (pos 3735) ∷ pos 0 ∷ neg_ℤ (pos 3710) ∷ pos 9999 ∷ pos 1 ∷ pos 9300 ∷ pos 5290 ∷ neg_ℤ (pos 718) ∷ neg_ℤ (pos 3767) ∷ pos 3156 ∷ pos 5284 ∷ pos 6667 ∷ pos 3345 ∷ pos 7885 ∷ pos 3746 ∷ pos 3 ∷ pos 5297 ∷ pos 1967 ∷ neg_ℤ (pos 38) ∷ pos 0 ∷ []) request.Manual false true true false 0 164 (readings (neg_ℤ (pos 2236)) (pos 5297) (neg_ℤ (pos 7533)) (pos 0)) 192 false true false (One (neg_ℤ (pos 2236)) (pos 5297)) (Some 4294979851) (pos 220004352)) (input 161 6914 5520 569 196 0 4294979894) (state 47402 (neg_ℤ (pos 1195) ∷ neg_ℤ (pos 4566) ∷ neg_ℤ (pos 512) ∷ neg_ℤ (pos 3735) ∷ pos 0 ∷ neg_ℤ (pos 3710) ∷ pos 9999 ∷ pos 1 ∷ pos 9300 ∷ pos 5290 ∷ neg_ℤ (pos 718) ∷ neg_ℤ (pos 3767) ∷ pos 3156 ∷ pos 5284 ∷ pos 6667 ∷ pos 3345 ∷ pos 7885 ∷ pos 3746 ∷ pos 3 ∷ pos 5290 ∷ pos 1967 ∷ neg_ℤ (pos 38) ∷ pos 0 ∷ []) request.Remote false true true false 0 161 (readings (neg_ℤ (pos 2235)) (pos 5290) (neg_ℤ (pos 7525)) (pos 0)) 196 false true false (One (neg_ℤ (pos 2235)) (pos 5290)) (Some 4294979894) (pos 220004055)) (words 3268 41453 3356 3356 Ratio (neg_ℤ (pos 2235)))
    -- scan: 85th open scan after Remote, S2.5 ON: minimum told by the mode of this scan, Forced, in place of the one just before
    ∷ Scans (state 10830 (pos 1803 ∷ neg_ℤ (pos 256) ∷ pos 7623 ∷ neg_ℤ (pos 8) ∷ pos 6748 ∷ pos 128 ∷ pos 9999 ∷ pos 1 ∷ pos 9999 ∷ neg_ℤ (pos 9999) ∷ pos 0 ∷ neg_ℤ (pos 7670) ∷ pos 1598 ∷ pos 64 ∷ pos 5891 ∷ pos 3577 ∷ pos 7202 ∷ pos 9976 ∷ pos 4 ∷ pos 774 ∷ pos 1 ∷ neg_ℤ (pos 36) ∷ pos 0 ∷ []) request.Remote false false true false 84 170 (readings (neg_ℤ (pos 256)) (pos 4500) (neg_ℤ (pos 4756)) (pos 0)) 76 false true false (Nothing) (Some 9644) (pos 386072576)) (input 182 0 9998 5421 72 1 9687) (state 10830 (pos 1803 ∷ neg_ℤ (pos 256) ∷ pos 7623 ∷ neg_ℤ (pos 8) ∷ pos 6748 ∷ pos 128 ∷ pos 9999 ∷ pos 1 ∷ pos 9999 ∷ neg_ℤ (pos 9999) ∷ pos 0 ∷ neg_ℤ (pos 7670) ∷ pos 1598 ∷ pos 64 ∷ pos 5891 ∷ pos 3577 ∷ pos 7202 ∷ pos 9976 ∷ pos 4 ∷ pos 775 ∷ pos 1 ∷ neg_ℤ (pos 36) ∷ pos 0 ∷ []) request.Manual false false true false 85 182 (readings (neg_ℤ (pos 256)) (pos 4492) (neg_ℤ (pos 4748)) (pos 0)) 72 false true false (Nothing) (Some 9687) (pos 234422272)) (words 9800 46745 3577 3577 Forced (neg_ℤ (pos 256)))
    -- scan: Fall-back, S1.1 OFF: c1 with the previous SP; the sum of the terms rounded, not each; the request Auto for good
    ∷ Scans (state 45936 (pos 9332 ∷ pos 0 ∷ pos 9126 ∷ pos 2 ∷ pos 15 ∷ neg_ℤ (pos 12) ∷ pos 9999 ∷ pos 1 ∷ pos 9999 ∷ neg_ℤ (pos 9999) ∷ pos 9332 ∷ pos 1 ∷ pos 0 ∷ pos 0 ∷ pos 8216 ∷ pos 3998 ∷ pos 5350 ∷ pos 0 ∷ pos 3 ∷ pos 9978 ∷ pos 4773 ∷ pos 0 ∷ pos 0 ∷ []) request.Remote false false false true 0 129 (readings (pos 4535) (pos 9978) (neg_ℤ (pos 5443)) (pos 1)) 136 false true false (Two (pos 4535) (pos 9978) (pos 4536)) (Some 1145361515442907402) (pos 314186366)) (input 129 4863 4262 4981 136 0 1145361515442907438) (state 45936 (pos 9332 ∷ pos 0 ∷ pos 9126 ∷ pos 2 ∷ pos 15 ∷ neg_ℤ (pos 12) ∷ pos 9999 ∷ pos 1 ∷ pos 9999 ∷ neg_ℤ (pos 9999) ∷ pos 9332 ∷ pos 1 ∷ pos 0 ∷ pos 0 ∷ pos 8216 ∷ pos 3998 ∷ pos 5350 ∷ pos 0 ∷ pos 3 ∷ pos 9977 ∷ pos 4773 ∷ pos 0 ∷ pos 0 ∷ []) request.Remote false false false true 0 129 (readings (pos 4538) (pos 9977) (neg_ℤ (pos 5439)) (pos 1)) 136 false true false (Two (pos 4538) (pos 9977) (pos 4535)) (Some 1145361515442907438) (pos 340478896)) (words 4248 33085 5195 5195 Fallback (pos 4538))
    -- scan: Track, S2.6 and S2.2 ON: the trim counted; the output limited, or inverted; SL becomes PV without limits
    ∷ Scans (state 32128 (pos 7131 ∷ neg_ℤ (pos 1474) ∷ pos 5838 ∷ pos 4728 ∷ pos 22 ∷ neg_ℤ (pos 22) ∷ pos 1 ∷ pos 1 ∷ pos 0 ∷ neg_ℤ (pos 8333) ∷ pos 8192 ∷ neg_ℤ (pos 1) ∷ pos 16 ∷ pos 0 ∷ pos 7626 ∷ pos 2757 ∷ pos 4350 ∷ pos 9482 ∷ pos 0 ∷ pos 0 ∷ pos 1 ∷ pos 0 ∷ pos 0 ∷ []) request.Remote false true false false 0 160 (readings (pos 1078) (pos 0) (pos 1078) (pos 0)) 192 false false true (Two (pos 1078) (pos 0) (pos 1079)) (Some 2147485240) (pos 206237608)) (input 242 5709 6866 2293 0 0 2147485270) (state 32128 (pos 7131 ∷ neg_ℤ (pos 1474) ∷ pos 5838 ∷ pos 4728 ∷ pos 22 ∷ neg_ℤ (pos 22) ∷ pos 1 ∷ pos 1 ∷ pos 0 ∷ neg_ℤ (pos 8333) ∷ pos 8192 ∷ neg_ℤ (pos 1) ∷ pos 16 ∷ pos 0 ∷ pos 7626 ∷ pos 2757 ∷ pos 4350 ∷ pos 9482 ∷ pos 0 ∷ pos 0 ∷ pos 1 ∷ pos 0 ∷ pos 0 ∷ []) request.Remote false true false false 0 242 (readings (pos 3439) (pos 0) (pos 3439) (pos 0)) 0 false false true (Two (pos 3439) (pos 0) (pos 1078)) (Some 2147485270) (pos 150274048)) (words 17408 62078 2293 7706 Track (pos 3439))
    -- scan: Hold, open, S2.6 ON: the output limited; SP kept, or without trim; SL becomes 1L, or is moved by hand
    ∷ Scans (state 3986 (neg_ℤ (pos 1) ∷ neg_ℤ (pos 1024) ∷ neg_ℤ (pos 3470) ∷ neg_ℤ (pos 4520) ∷ pos 9264 ∷ neg_ℤ (pos 1) ∷ pos 9999 ∷ pos 1 ∷ pos 9999 ∷ neg_ℤ (pos 9999) ∷ neg_ℤ (pos 2) ∷ neg_ℤ (pos 1024) ∷ pos 0 ∷ pos 6016 ∷ pos 0 ∷ pos 0 ∷ pos 4207 ∷ pos 5647 ∷ pos 0 ∷ neg_ℤ (pos 513) ∷ pos 484 ∷ neg_ℤ (pos 1024) ∷ pos 0 ∷ []) request.Auto false true false false 14 77 (readings (neg_ℤ (pos 1024)) (pos 576) (neg_ℤ (pos 1600)) (pos 0)) 136 false false false (Nothing) (Some 567) (pos 191299584)) (input 67 4988 2047 1201 136 1 610) (state 3986 (neg_ℤ (pos 1) ∷ neg_ℤ (pos 1024) ∷ neg_ℤ (pos 3470) ∷ neg_ℤ (pos 4520) ∷ pos 9264 ∷ neg_ℤ (pos 1) ∷ pos 9999 ∷ pos 1 ∷ pos 9999 ∷ neg_ℤ (pos 9999) ∷ neg_ℤ (pos 2) ∷ neg_ℤ (pos 1024) ∷ pos 0 ∷ pos 6016 ∷ pos 0 ∷ pos 0 ∷ pos 4207 ∷ pos 5647 ∷ pos 0 ∷ neg_ℤ (pos 513) ∷ pos 484 ∷ neg_ℤ (pos 1024) ∷ pos 0 ∷ []) request.Auto false true false false 15 67 (readings (neg_ℤ (pos 1024)) (pos 599) (neg_ℤ (pos 1623)) (pos 0)) 136 false false false (Nothing) (Some 610) (pos 191299584)) (words 32904 17247 2919 2919 Hold (neg_ℤ (pos 1024)))
    -- scan: the memory fault, A pressed, S2.6 ON: A leaves Forced Manual; the request stays; SL becomes PV less the trim
    ∷ Scans (state 19680 (pos 0 ∷ neg_ℤ (pos 2113) ∷ pos 9669 ∷ neg_ℤ (pos 1) ∷ pos 12 ∷ neg_ℤ (pos 37) ∷ pos 4497 ∷ pos 3190 ∷ pos 9999 ∷ neg_ℤ (pos 9999) ∷ neg_ℤ (pos 1) ∷ neg_ℤ (pos 2113) ∷ pos 32 ∷ pos 8860 ∷ pos 6370 ∷ pos 3943 ∷ pos 1 ∷ pos 5531 ∷ pos 1024 ∷ neg_ℤ (pos 1468) ∷ pos 4497 ∷ pos 6762 ∷ pos 0 ∷ []) request.Remote true false true false 0 165 (readings (neg_ℤ (pos 1638)) (neg_ℤ (pos 1481)) (neg_ℤ (pos 157)) (pos 0)) 132 false false false (Two (neg_ℤ (pos 1638)) (neg_ℤ (pos 1481)) (neg_ℤ (pos 1663))) (Some 4294972595) (pos 330194054)) (input 170 5 8155 4982 130 0 4294972631) (state 19680 (pos 0 ∷ neg_ℤ (pos 2113) ∷ pos 9669 ∷ neg_ℤ (pos 1) ∷ pos 12 ∷ neg_ℤ (pos 37) ∷ pos 4497 ∷ pos 3190 ∷ pos 9999 ∷ neg_ℤ (pos 9999) ∷ neg_ℤ (pos 1) ∷ neg_ℤ (pos 2113) ∷ pos 32 ∷ pos 8860 ∷ pos 6370 ∷ pos 3943 ∷ pos 1 ∷ pos 5531 ∷ pos 1024 ∷ neg_ℤ (pos 2112) ∷ pos 4497 ∷ pos 6762 ∷ pos 0 ∷ []) request.Manual true false true false 0 170 (readings (neg_ℤ (pos 2112)) (neg_ℤ (pos 2125)) (pos 13) (pos 0)) 130 false false false (Two (neg_ℤ (pos 2112)) (neg_ℤ (pos 2125)) (neg_ℤ (pos 1638))) (Some 4294972631) (pos 329407622)) (words 9602 43675 5026 4973 Forced (neg_ℤ (pos 2112)))
    -- scan: Remote, S1.1 OFF: c1 with the present SP; channel 2 by 2L, 2H; the output limited after each term
    ∷ Scans (state 5897 (pos 2068 ∷ neg_ℤ (pos 4877) ∷ pos 128 ∷ pos 0 ∷ pos 6 ∷ neg_ℤ (pos 9) ∷ pos 3630 ∷ pos 1 ∷ pos 9999 ∷ neg_ℤ (pos 9999) ∷ pos 2068 ∷ neg_ℤ (pos 4876) ∷ pos 8055 ∷ pos 0 ∷ pos 9999 ∷ pos 0 ∷ pos 9476 ∷ pos 5039 ∷ pos 2 ∷ pos 2064 ∷ pos 183 ∷ neg_ℤ (pos 2) ∷ pos 0 ∷ []) request.Remote false true true false 0 191 (readings (neg_ℤ (pos 945)) (pos 2057) (neg_ℤ (pos 3002)) (pos 0)) 64 false true false (One (neg_ℤ (pos 945)) (pos 2057)) (Some 67268) (pos 632595398)) (input 184 4374 4995 4651 4 0 67310) (state 5897 (pos 2068 ∷ neg_ℤ (pos 4877) ∷ pos 128 ∷ pos 0 ∷ pos 6 ∷ neg_ℤ (pos 9) ∷ pos 3630 ∷ pos 1 ∷ pos 9999 ∷ neg_ℤ (pos 9999) ∷ pos 2068 ∷ neg_ℤ (pos 4876) ∷ pos 8055 ∷ pos 0 ∷ pos 9999 ∷ pos 0 ∷ pos 9476 ∷ pos 5039 ∷ pos 2 ∷ neg_ℤ (pos 1408) ∷ pos 183 ∷ neg_ℤ (pos 2) ∷ pos 0 ∷ []) request.Remote false true true false 0 184 (readings (neg_ℤ (pos 1839)) (neg_ℤ (pos 1410)) (neg_ℤ (pos 429)) (pos 0)) 4 false true false (Two (neg_ℤ (pos 1839)) (neg_ℤ (pos 1410)) (neg_ℤ (pos 945))) (Some 67310) (pos 2857947)) (words 3076 47341 43 43 Remote (neg_ℤ (pos 1839)))
    -- write: LS in Ratio: SL limited by the next scan only, or not in this mode; SP limited at once
    ∷ Writes (state 46029 (pos 6871 ∷ pos 6118 ∷ pos 8237 ∷ neg_ℤ (pos 32) ∷ pos 8192 ∷ pos 129 ∷ pos 9999 ∷ pos 1 ∷ pos 8251 ∷ neg_ℤ (pos 2234) ∷ pos 793 ∷ neg_ℤ (pos 5194) ∷ pos 4 ∷ pos 4 ∷ pos 3678 ∷ pos 2214 ∷ pos 8996 ∷ pos 2 ∷ pos 2 ∷ pos 5757 ∷ pos 1855 ∷ neg_ℤ (pos 47) ∷ pos 0 ∷ []) request.Remote false true true true 84 165 (readings (pos 7254) (neg_ℤ (pos 1465)) (pos 8719) (neg_ℤ (pos 1616))) 199 false false true (One (pos 7254) (neg_ℤ (pos 1465))) (Some 621144) (pos 348396049)) 10 (pos 8251) (state 46029 (pos 6871 ∷ pos 6118 ∷ pos 8237 ∷ neg_ℤ (pos 32) ∷ pos 8192 ∷ pos 129 ∷ pos 9999 ∷ pos 1 ∷ pos 8251 ∷ pos 8251 ∷ pos 793 ∷ neg_ℤ (pos 5194) ∷ pos 4 ∷ pos 4 ∷ pos 3678 ∷ pos 2214 ∷ pos 8996 ∷ pos 2 ∷ pos 2 ∷ pos 8251 ∷ pos 1855 ∷ neg_ℤ (pos 47) ∷ pos 0 ∷ []) request.Remote false true true true 84 165 (readings (pos 7254) (neg_ℤ (pos 1465)) (pos 8719) (neg_ℤ (pos 1616))) 199 false false true (One (pos 7254) (neg_ℤ (pos 1465))) (Some 621144) (pos 348396049)) acceptance
    -- write under the fault: MD bit 12 with bit 8 zero: 11, since a cause stood before; the fault cleared and the request Auto
    ∷ Writes (state 0 (pos 1000 ∷ pos 0 ∷ pos 1000 ∷ pos 0 ∷ pos 1 ∷ pos 0 ∷ pos 9999 ∷ pos 1 ∷ pos 1000 ∷ pos 0 ∷ pos 9999 ∷ neg_ℤ (pos 9999) ∷ pos 9999 ∷ pos 9999 ∷ pos 9999 ∷ pos 0 ∷ pos 1000 ∷ pos 0 ∷ pos 0 ∷ pos 0 ∷ pos 100 ∷ pos 0 ∷ pos 0 ∷ []) request.Manual true false false false 0 128 (readings (pos 0) (pos 0) (pos 0) (pos 0)) 0 false false false (Nothing) None (pos 0)) 24 (pos 55039) (state 0 (pos 1000 ∷ pos 0 ∷ pos 1000 ∷ pos 0 ∷ pos 1 ∷ pos 0 ∷ pos 9999 ∷ pos 1 ∷ pos 1000 ∷ pos 0 ∷ pos 9999 ∷ neg_ℤ (pos 9999) ∷ pos 9999 ∷ pos 9999 ∷ pos 9999 ∷ pos 0 ∷ pos 1000 ∷ pos 0 ∷ pos 0 ∷ pos 0 ∷ pos 100 ∷ pos 0 ∷ pos 0 ∷ []) request.Manual false false false true 0 128 (readings (pos 0) (pos 0) (pos 0) (pos 0)) 0 false false false (Nothing) None (pos 0)) acceptance
    -- restart: S2.5 ON, the fault standing before: the image's request kept; the fault kept; MD bit 4 zero; OP below LO illegal
    ∷ Restarts (state 31979 (pos 32 ∷ pos 0 ∷ pos 4395 ∷ pos 2996 ∷ pos 4 ∷ neg_ℤ (pos 12) ∷ pos 6782 ∷ pos 4669 ∷ pos 7123 ∷ neg_ℤ (pos 7281) ∷ pos 31 ∷ pos 0 ∷ pos 0 ∷ pos 3134 ∷ pos 9999 ∷ pos 0 ∷ pos 2352 ∷ pos 3946 ∷ pos 3 ∷ pos 7123 ∷ pos 4888 ∷ neg_ℤ (pos 8019) ∷ pos 0 ∷ []) request.Manual true false true true 84 181 (readings (pos 6165) (pos 5997) (pos 168) (neg_ℤ (pos 4809))) 75 false true false (One (pos 6165) (pos 5997)) (Some 581940) (pos 636816643)) (1 ∷ 0 ∷ 2 ∷ 39 ∷ 15 ∷ 2 ∷ 0 ∷ 2 ∷ 216 ∷ 241 ∷ 3 ∷ 0 ∷ 2 ∷ 39 ∷ 15 ∷ 4 ∷ 0 ∷ 2 ∷ 216 ∷ 241 ∷ 5 ∷ 0 ∷ 2 ∷ 39 ∷ 15 ∷ 6 ∷ 0 ∷ 2 ∷ 216 ∷ 241 ∷ 7 ∷ 0 ∷ 2 ∷ 39 ∷ 15 ∷ 8 ∷ 0 ∷ 2 ∷ 0 ∷ 1 ∷ 9 ∷ 0 ∷ 2 ∷ 2 ∷ 188 ∷ 10 ∷ 0 ∷ 2 ∷ 254 ∷ 12 ∷ 11 ∷ 0 ∷ 2 ∷ 39 ∷ 15 ∷ 12 ∷ 0 ∷ 2 ∷ 236 ∷ 120 ∷ 13 ∷ 0 ∷ 2 ∷ 12 ∷ 80 ∷ 14 ∷ 0 ∷ 2 ∷ 2 ∷ 0 ∷ 15 ∷ 0 ∷ 2 ∷ 23 ∷ 112 ∷ 16 ∷ 0 ∷ 2 ∷ 11 ∷ 184 ∷ 17 ∷ 0 ∷ 2 ∷ 5 ∷ 255 ∷ 18 ∷ 0 ∷ 2 ∷ 3 ∷ 46 ∷ 19 ∷ 0 ∷ 2 ∷ 0 ∷ 2 ∷ 20 ∷ 0 ∷ 2 ∷ 0 ∷ 0 ∷ 21 ∷ 0 ∷ 2 ∷ 0 ∷ 50 ∷ 22 ∷ 0 ∷ 2 ∷ 32 ∷ 0 ∷ 23 ∷ 0 ∷ 2 ∷ 0 ∷ 0 ∷ 65 ∷ 0 ∷ 2 ∷ 11 ∷ 183 ∷ 66 ∷ 0 ∷ 1 ∷ 2 ∷ 67 ∷ 0 ∷ 1 ∷ 0 ∷ 68 ∷ 0 ∷ 1 ∷ 5 ∷ 127 ∷ 0 ∷ 2 ∷ 161 ∷ 246 ∷ []) (state 31979 (pos 9999 ∷ neg_ℤ (pos 9999) ∷ pos 9999 ∷ neg_ℤ (pos 9999) ∷ pos 9999 ∷ neg_ℤ (pos 9999) ∷ pos 9999 ∷ pos 1 ∷ pos 700 ∷ neg_ℤ (pos 500) ∷ pos 9999 ∷ neg_ℤ (pos 5000) ∷ pos 3152 ∷ pos 512 ∷ pos 6000 ∷ pos 3000 ∷ pos 1535 ∷ pos 814 ∷ pos 2 ∷ pos 0 ∷ pos 50 ∷ pos 8192 ∷ pos 0 ∷ []) request.Manual false true false true 0 128 (readings (neg_ℤ (pos 9999)) (pos 0) (neg_ℤ (pos 9999)) (pos 0)) 0 false false false (Nothing) None (pos 393216000)) acceptance
    -- restart: a wrong sumcheck: HO and LO kept; SL and RS by default, not limited; a pair judged before the ranges
    ∷ Restarts (state 17728 (pos 0 ∷ neg_ℤ (pos 64) ∷ pos 1 ∷ neg_ℤ (pos 8512) ∷ pos 23 ∷ neg_ℤ (pos 23) ∷ pos 4 ∷ pos 1 ∷ pos 9999 ∷ neg_ℤ (pos 9999) ∷ pos 6596 ∷ pos 2045 ∷ pos 2 ∷ pos 4485 ∷ pos 8129 ∷ pos 891 ∷ pos 2278 ∷ pos 0 ∷ pos 1 ∷ pos 9999 ∷ pos 4 ∷ pos 36 ∷ pos 1 ∷ []) request.Manual false true true false 84 181 (readings (pos 9940) (neg_ℤ (pos 2263)) (pos 12203) (neg_ℤ (pos 1775))) 3 false true true (Two (pos 9940) (neg_ℤ (pos 2263)) (neg_ℤ (pos 2263))) (Some 717840) (pos 73077594)) (1 ∷ 0 ∷ 2 ∷ 1 ∷ 44 ∷ 2 ∷ 0 ∷ 2 ∷ 1 ∷ 45 ∷ 3 ∷ 0 ∷ 2 ∷ 39 ∷ 16 ∷ 4 ∷ 0 ∷ 2 ∷ 5 ∷ 220 ∷ 5 ∷ 0 ∷ 2 ∷ 216 ∷ 240 ∷ 6 ∷ 0 ∷ 2 ∷ 255 ∷ 251 ∷ 7 ∷ 0 ∷ 2 ∷ 1 ∷ 44 ∷ 8 ∷ 0 ∷ 2 ∷ 1 ∷ 45 ∷ 9 ∷ 0 ∷ 2 ∷ 2 ∷ 188 ∷ 10 ∷ 0 ∷ 2 ∷ 216 ∷ 240 ∷ 11 ∷ 0 ∷ 2 ∷ 1 ∷ 144 ∷ 12 ∷ 0 ∷ 2 ∷ 1 ∷ 144 ∷ 13 ∷ 0 ∷ 2 ∷ 255 ∷ 255 ∷ 14 ∷ 0 ∷ 2 ∷ 8 ∷ 123 ∷ 15 ∷ 0 ∷ 2 ∷ 23 ∷ 112 ∷ 16 ∷ 0 ∷ 2 ∷ 11 ∷ 184 ∷ 17 ∷ 0 ∷ 2 ∷ 0 ∷ 0 ∷ 18 ∷ 0 ∷ 2 ∷ 39 ∷ 16 ∷ 19 ∷ 0 ∷ 2 ∷ 0 ∷ 3 ∷ 20 ∷ 0 ∷ 2 ∷ 2 ∷ 189 ∷ 21 ∷ 0 ∷ 2 ∷ 0 ∷ 0 ∷ 22 ∷ 0 ∷ 2 ∷ 0 ∷ 43 ∷ 23 ∷ 0 ∷ 2 ∷ 0 ∷ 2 ∷ 65 ∷ 0 ∷ 2 ∷ 15 ∷ 160 ∷ 66 ∷ 0 ∷ 1 ∷ 1 ∷ 67 ∷ 0 ∷ 1 ∷ 0 ∷ 68 ∷ 0 ∷ 1 ∷ 13 ∷ 127 ∷ 0 ∷ 2 ∷ 79 ∷ 162 ∷ []) (state 17728 (pos 1000 ∷ pos 0 ∷ pos 1000 ∷ pos 0 ∷ pos 1 ∷ neg_ℤ (pos 5) ∷ pos 9999 ∷ pos 1 ∷ pos 700 ∷ pos 0 ∷ pos 400 ∷ pos 400 ∷ pos 9999 ∷ pos 2171 ∷ pos 9999 ∷ pos 0 ∷ pos 1000 ∷ pos 0 ∷ pos 3 ∷ pos 700 ∷ pos 1 ∷ pos 43 ∷ pos 0 ∷ []) request.Manual true false false false 0 128 (readings (pos 0) (pos 700) (neg_ℤ (pos 700)) (pos 0)) 0 false false false (Nothing) None (pos 655294464)) acceptance
    -- save: in Hold under the open cause: 43h 1 for this cause; SP in place of SL; bytes past the 137 zeroed
    ∷ Saves (state 29931 (pos 32 ∷ pos 0 ∷ pos 4395 ∷ pos 2996 ∷ pos 4 ∷ neg_ℤ (pos 12) ∷ pos 6782 ∷ pos 4669 ∷ pos 7123 ∷ neg_ℤ (pos 7281) ∷ pos 31 ∷ pos 0 ∷ pos 0 ∷ pos 3134 ∷ pos 9999 ∷ pos 0 ∷ pos 2352 ∷ pos 3946 ∷ pos 3 ∷ pos 7123 ∷ pos 4888 ∷ neg_ℤ (pos 8019) ∷ pos 0 ∷ []) request.Manual false false true true 85 0 (readings (pos 6165) (pos 5997) (pos 168) (neg_ℤ (pos 4809))) 75 false true false (One (pos 6165) (pos 5997)) (Some 581940) (pos 636816643)) 140 acceptance (1 ∷ 0 ∷ 2 ∷ 0 ∷ 32 ∷ 2 ∷ 0 ∷ 2 ∷ 0 ∷ 0 ∷ 3 ∷ 0 ∷ 2 ∷ 17 ∷ 43 ∷ 4 ∷ 0 ∷ 2 ∷ 11 ∷ 180 ∷ 5 ∷ 0 ∷ 2 ∷ 0 ∷ 4 ∷ 6 ∷ 0 ∷ 2 ∷ 255 ∷ 244 ∷ 7 ∷ 0 ∷ 2 ∷ 26 ∷ 126 ∷ 8 ∷ 0 ∷ 2 ∷ 18 ∷ 61 ∷ 9 ∷ 0 ∷ 2 ∷ 27 ∷ 211 ∷ 10 ∷ 0 ∷ 2 ∷ 227 ∷ 143 ∷ 11 ∷ 0 ∷ 2 ∷ 0 ∷ 31 ∷ 12 ∷ 0 ∷ 2 ∷ 0 ∷ 0 ∷ 13 ∷ 0 ∷ 2 ∷ 0 ∷ 0 ∷ 14 ∷ 0 ∷ 2 ∷ 12 ∷ 62 ∷ 15 ∷ 0 ∷ 2 ∷ 39 ∷ 15 ∷ 16 ∷ 0 ∷ 2 ∷ 0 ∷ 0 ∷ 17 ∷ 0 ∷ 2 ∷ 9 ∷ 48 ∷ 18 ∷ 0 ∷ 2 ∷ 15 ∷ 106 ∷ 19 ∷ 0 ∷ 2 ∷ 0 ∷ 3 ∷ 20 ∷ 0 ∷ 2 ∷ 27 ∷ 211 ∷ 21 ∷ 0 ∷ 2 ∷ 19 ∷ 24 ∷ 22 ∷ 0 ∷ 2 ∷ 224 ∷ 173 ∷ 23 ∷ 0 ∷ 2 ∷ 0 ∷ 0 ∷ 65 ∷ 0 ∷ 2 ∷ 37 ∷ 245 ∷ 66 ∷ 0 ∷ 1 ∷ 0 ∷ 67 ∷ 0 ∷ 1 ∷ 0 ∷ 68 ∷ 0 ∷ 1 ∷ 6 ∷ 127 ∷ 0 ∷ 2 ∷ 202 ∷ 176 ∷ 165 ∷ 165 ∷ 165 ∷ [])
    ∷ []
