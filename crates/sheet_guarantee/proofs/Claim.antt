-- The claim: over the contracts, after every list of answers.
use Rattle.std.specs.Prelude.{Ok, Err, if◌then◌else◌}
use mathlib.Core.Path.{◌≡◌, refl, sym, ap, subst, ◌∙◌}
use mathlib.Core.List.{List, [], ◌∷◌}
use Prim.Native.Nat.{ℕ, ◌≤◌}
use native.Mathlib.Omega.{arith}
use lib.Dec.{eqb, leb}
use lib.ListN.{get_or}
use borrow.Author.Tests.{leb-true, leb-false, eq-eqb, ne_eqb}
use Rattle.integers.specs.Choice.{by_cases}
use Rattle.answers.specs.declared.ScanValues.{ScanValues}
use Rattle.sheet.specs.EnteredLaws.{parts, empty_valid, entered_valid}
use Rattle.sheet.specs.Sheet as rules
use Rattle.sheet.specs.Sheet.{scans_in, empty_sheet}
use Rattle.sheet.specs.Valid.{Valid, kept_sheet, is_valid}
use Rattle.sheet.specs.declared.EnterResult.{EnterResult}
use Rattle.sheet.specs.declared.Bound.TheVariants.{Greatest, Least}
use Rattle.sheet.specs.declared.KeptResult.{KeptResult}
use Rattle.sheet.specs.declared.Sheet.{Sheet}
use Rattle.sheet.specs.declared.SheetValues.{SheetValues}
use Rattle.sheet.specs.declared.Mean.{Mean}
use Rattle.sheet_guarantee.specs.Claim.{FullExactly, no_entry, and_entry, Results, Always}
use Rattle.sheet_guarantee.specs.Claim.{AlwaysLinked}
use Rattle.sheet_guarantee.specs.Linked.{Entry, Linked, started, entered, kept, refused, taken_of}
use Rattle.sheet_guarantee.specs.Meaning.{Answers, none, ◌then◌, many, IsExtreme, Gives}
use Rattle.sheet_guarantee.proofs.Unique.{answerable}
use Rattle.sheet_guarantee.proofs.Step.{place_is, empty_gives, taken_gives}

-- ---- what an answer does to a sheet

-- a sheet that holds what the answers taken give, and can take one more
record Holds (ys : Answers) (s : Sheet) : Type 0 where
  gives : Gives ys s.values
  valid : Valid s

few : (ys : Answers) (s : Sheet) → Holds ys s → many ys ≤ 4294967295
few ys s h = let p = parts s.values h.valid.tested in omega (arith, p.scans, h.gives.scans)

-- what the next answer says
abbrev next : Answers → Entry
next ys = if eqb (many ys) 4294967295 then Err (record {}) else Ok tt

abbrev Entered : Answers → List Entry → ScanValues → EnterResult → Type 0
Entered xs es a r = (r.entry ≡ next (taken_of xs es)) × Gives (taken_of (xs then a) (r.entry ∷ es)) r.sheet.values

one_more_lem : (xs : Answers) (es : List Entry) (s : Sheet) (a : ScanValues) → Holds (taken_of xs es) s →
    Entered xs es a (rules.entered s a)
unfolding rules.entered
one_more_lem xs es s a h =
    let ys = taken_of xs es in
    let scans = s.values.scans in
    let many_is = h.gives.scans in
    by_cases (Entered xs es a) (leb 4294967295 scans) _ _
    (λ e.
    let full : many ys ≡ 4294967295 = omega (arith, leb-true 4294967295 scans e, few ys s h, many_is) in
    (rw (eq-eqb (many ys) 4294967295 full) refl, h.gives))
    (λ e.
    let room : many ys ≡ 4294967295 → ⊥ = λ q. omega (arith, leb-false 4294967295 scans e, many_is, q) in
    (rw (ne_eqb (many ys) 4294967295 room) refl, taken_gives ys s.values a h.gives))

-- a full sheet is left as it was
abbrev Stays : Sheet → EnterResult → Type 0
Stays s r = r.entry ≡ Err (record {}) → r.sheet ≡ s

full_stays : (s : Sheet) (a : ScanValues) → Stays s (rules.entered s a)
unfolding rules.entered
full_stays s a = by_cases (Stays s) (leb 4294967295 s.values.scans) _ _ (λ e. λ q. refl) (λ e. λ q. cc)

-- values that were kept of a valid sheet give it again
same_again : (s : Sheet) → Valid s → kept_sheet s.values ≡ record { sheet = s; verdict = Ok tt }
unfolding kept_sheet
same_again s v = rw v.tested refl

kept_is : (s : Sheet) (v : SheetValues) (r : KeptResult) → Valid s → v ≡ s.values → r ≡ kept_sheet v →
    r ≡ record { sheet = s; verdict = Ok tt }
kept_is s v r valid e q = q ∙ ap kept_sheet e ∙ same_again s valid

-- values that were refused leave an empty sheet
abbrev EmptyIfInvalid : KeptResult → Type 0
EmptyIfInvalid r = r.verdict ≡ Err (record {}) → r.sheet ≡ empty_sheet

empty_again : (v : SheetValues) → EmptyIfInvalid (kept_sheet v)
unfolding kept_sheet
empty_again v = by_cases EmptyIfInvalid (is_valid v) _ _ (λ e. λ q. cc) (λ e. λ q. refl)

-- ---- after every list

holds : {xs : Answers} {es : List Entry} {s : Sheet} → Linked xs es s → Holds (taken_of xs es) s
holds (started r e) =
    record { gives = subst (λ (s : Sheet). Gives none s.values) (sym e.0) empty_gives; valid = e.1 }
holds (entered {xs} {es} {s} a r l e) =
    record { gives = (subst (Entered xs es a) (sym e.0) (one_more_lem xs es s a (holds l))).1; valid = e.1 }
holds (kept {xs} {es} {s} v r l d e) =
    let same = kept_is s v r (holds l).valid d e.0 in
    subst (Holds (taken_of xs es)) (sym (ap (λ (r : KeptResult). r.sheet) same)) (holds l)
holds (refused v r e i) =
    let none_in = subst EmptyIfInvalid (sym e.0) (empty_again v) i in
    record { gives = subst (λ (s : Sheet). Gives none s.values) (sym none_in) empty_gives; valid = e.1 }

full_exactly : {xs : Answers} {es : List Entry} {s : Sheet} → Linked xs es s → FullExactly xs es
full_exactly (started r e) = no_entry
full_exactly (entered {xs} {es} {s} a r l e) =
    and_entry (full_exactly l) (subst (Entered xs es a) (sym e.0) (one_more_lem xs es s a (holds l))).0
full_exactly (kept v r l d e) = full_exactly l
full_exactly (refused v r e i) = no_entry

results : (ys : Answers) (s : Sheet) → Holds ys s → Results ys s
unfolding scans_in
results ys s h =
    let g = h.gives in
    record {
      scans = λ r e. e ∙ g.scans;
      in_mode_lem = λ m r e. e ∙ ap (λ (k : ℕ). get_or s.values.modes k 0) (place_is m) ∙ g.modes m;
      greatest = λ r e. subst (IsExtreme Greatest ys) (sym e) g.greatest;
      least = λ r e. subst (IsExtreme Least ys) (sym e) g.least;
      with_alarm = λ r e. e ∙ g.alarms;
      sum_pv_is = λ r e. e ∙ g.sum_pv_is;
      sum_op_is = λ r e. e ∙ g.sum_op_is;
      mean_pv = λ r e. (ap (λ (m : Mean). m.sum) e ∙ g.sum_pv_is, ap (λ (m : Mean). m.count) e ∙ g.scans);
      mean_op = λ r e. (ap (λ (m : Mean). m.sum) e ∙ g.sum_op_is, ap (λ (m : Mean). m.count) e ∙ g.scans);
      values = λ r e. subst (Gives ys) (sym e) g;
    }

pub always : Always
always xs es s l =
    let h = holds l in
    record {
      results = results (taken_of xs es) s h;
      full_exactly = full_exactly l;
      taken_most = few (taken_of xs es) s h;
      kept_again = λ v r d e. kept_is s v r h.valid d e.0;
      full_stays = λ a r e. subst (Stays s) (sym e.0) (full_stays s a);
      ready = record {
        valid = h.valid;
        empty_ready = tt;
        enter_ready = λ a. tt;
        kept_ready = λ v. tt;
        values_ready = tt;
        scans_ready = tt;
        scans_in_ready = λ m. tt;
        greatest_ready = tt;
        least_ready = tt;
        alarm_ready = tt;
        sum_pv_ready = tt;
        sum_op_ready = tt;
        mean_pv_ready = tt;
        mean_op_ready = tt;
      };
    }

-- ---- such a sheet exists for every list

pub always_linked : AlwaysLinked
always_linked none h = record { entries = []; last = empty_sheet; chain = started empty_sheet (refl, empty_valid) }
always_linked (xs then a) h =
    let c = always_linked xs h.0 in
    let r = rules.entered c.last a in
    record {
      entries = r.entry ∷ c.entries;
      last = r.sheet;
      chain = entered a r c.chain (refl, entered_valid c.last a (holds c.chain).valid (answerable a h.1));
    }
