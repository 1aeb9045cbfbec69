-- `scaling::roots::entry` meets its contract. The prover says that the match has too many arms for it, so this one is
-- walked here, by induction over the arms. The table is read off the code (`entries`), and the arms made of what was
-- read are the code's (`same`); the rule is tested at all entries at once (`tested`), which the checker computes.
use mathlib.Core.Path.{◌≡◌, refl, sym, subst}
use mathlib.Core.Bool.{Bool, true, false}
use mathlib.Core.List.{[], ◌∷◌, List}
use Prim.Native.Nat.{ℕ, suc, ◌+◌, ◌*◌, ◌≤◌, ◌<◌, ◌^◌}
use native.Mathlib.Omega.{arith}
use seplogic.Ra.Ura.{Ura}
use base.Fraction.{full_share}
use lib.Dec.{ltb, lt→ltb}
use lib.ListN.{length}
use mir.Syntax.{w16, ty_int, place, copy, switch, Arms}
use mir.Val.{Val, Fits, vint}
use base.Logic.{SProp, ent, emp, via, guard_i}
use base.Fml.{ftrue, fat, froom, fdies}
use prog.Memory.{Memory}
use prog.Routine.{Routine}
use prog.Wp.{Env, Calls, Loops, Wp, WpFn, after_seq, at_return}
use types.Logic.{Logic}
use contract.Monad.{Fun}
use contract.Running.{tables}
use types.Kit as Kit
use types.Kit.{Go, Item, Sq, prop, runs, any_q, at_ret, ‵, ◌$◌, ◌∵◌, !, qed, by, move, drop, fjoin, suffices, frame, done}
use types.Run.{Opd as Reading, Cases, look, init, forget, stop, from, load, lit, of_opd, assigns, assigns_last, first, switches}
use types.Run.{exec, returns, enter, alloc1, alloc0, params1, pass1, pass0, free1, free0}
use denote.RattleType.{owns}
use denote.Laws.{Is}
use denote.Plain.{uint_vals, uint_Tells, uint_Makes}
use denote.Builtin.{u16}
use denote.Steps.{owned, nothing}
use denote.Triple.Entry.{on_entry}
use denote.Triple.Walked.{says as ensured, needs, Stays, stay_none, walk_of, Goes-none, ends_at}
use denote.Exit.{yes}
use Rattle.integers.specs.Choice.{both}
use Rattle.scaling.specs.Root.{Greatest, fits_most}
use Rattle.scaling.proofs.Entries.{is_root, are_roots, root_at}
use Rattle.scaling.proofs.Arms.{entries_of, arms_in, literal, sets, arms_of}
use Rattle.std.proofs.raw_atomic.Walks.{proved}
use Rattle.scaling.specs.contracts.roots.entry as entry
use Rattle.scaling.proofs.roots.entry.Statement as stated
use Rattle.scaling.proofs.roots.entry.Code as code
use Rattle.scaling.proofs.roots.entry.Code.Mir as parts

-- the table, as the code has it
entries : List ℕ
entries = entries_of (arms_in parts.s-1)

same : arms_of 0 entries ≡ arms_in parts.s-1
unfolding entries
same = refl

-- "Every entry is the greatest whole number whose square isn't above 10000 times its place."
tested : are_roots 0 entries ≡ true
unfolding entries
tested = refl

entries_counted : length entries ≡ 10001
unfolding entries
entries_counted = refl

-- the sample is left to the caller as it was
abbrev stays : Stays (entry.ended).signature.params (entry.ended).kept
stays = (stay_none (λ _. u16) yes, tt)

module _ {M : Type 1} {𝓤 : Ura M} (𝓛 : Logic 𝓤) (mem : Memory → SProp 𝓤) (run : Routine → Fun 𝓤)
    (sample : ℕ) (within : sample ≤ 10000) (fits : sample < 2 ^ 16) where
  open 𝓛 use {H}

  abbrev Post : Val → SProp 𝓤
  Post = (walk_of 𝓛 entry.ended stays (entry.clauses 𝓛 mem run)).post
      ((tt, tt, tt, (sample, tt), (vint w16 sample ∷ [], tt)), tt)

  -- what is returned meets the contract
  met : (r : ℕ) → Greatest (10000 * sample) r → r < 2 ^ 16 → ent 𝓤 (emp 𝓤) (Post (vint w16 r))
  met r is f =
      let ends = ends_at 𝓛 entry.ended stays (entry.clauses 𝓛 mem run)
      ((tt, tt, tt, (sample, tt), (vint w16 sample ∷ [], tt)), tt) (vint w16 r) r (tt, tt) (tt, tt) in
      qed 𝓛 [] ∵ suffices ! _ ends $ ensured ! is $
      nothing ! $ frame ! $ owned ! u16 (Is u16) (uint_Makes 𝓛 w16) sample _ (refl, fits) $
      nothing ! $ move ! (1 ∷ 0 ∷ []) $ fjoin ! $ frame ! $ owned ! u16 (Is u16) (uint_Makes 𝓛 w16) r _ (refl, f) $ done !

  module _ (C : Calls 𝓤 H) (Λ : Loops 𝓤 H) (result argument value : ℕ) where
    -- the three locals: the result, the sample, and what the match gives
    abbrev E : Env 𝓤 H
    E = (ty_int w16, result) ∷ (ty_int w16, argument) ∷ (ty_int w16, value) ∷ []

    abbrev Return : SProp 𝓤
    Return = Wp 𝓤 H C Λ E parts.t-2 (at_return 𝓤 H E Post)

    -- what is to hold behind the match
    abbrev Behind : Kit.Post 𝓤 H
    Behind = any_q (after_seq 𝓤 H Return (at_return 𝓤 H E Post))

    abbrev Others : List (Item 𝓤)
    Others = ‵ (fdies (ty_int w16) value) ∷ ‵ (fat full_share (ty_int w16) argument 0 (vint w16 sample)) ∷ ‵ (fdies (ty_int w16) argument)
        ∷ ‵ (froom (ty_int w16) result 0) ∷ ‵ (fdies (ty_int w16) result) ∷ []

    abbrev Before : List (Item 𝓤)
    Before = ‵ (froom (ty_int w16) value 0) ∷ Others

    abbrev After : ℕ → List (Item 𝓤)
    After r = ‵ (fat full_share (ty_int w16) value 0 (vint w16 r)) ∷ Others

    -- what the match gave is copied into the result and returned, and the locals are freed
    leaves : (r : ℕ) → Greatest (10000 * sample) r → r < 2 ^ 16 → Sq 𝓛 (After r) (prop Return)
    leaves r is f =
        exec ! C Λ E parts.t-2 (at_ret E Post) $
        assigns ! (of_opd ! (load ! (from ! (stop !)) (look ! 0 refl))) (from ! (stop !)) (init ! 4 refl (tt, record { fits = f })) $
        returns ! (look ! 4 refl) $ forget ! 0 refl $ forget ! 2 refl $ forget ! 4 refl $
        move ! (4 ∷ 5 ∷ []) $ free1 ! $ move ! (2 ∷ 3 ∷ []) $ free1 ! $ free1 ! $ free0 ! $ by ! (met r is f)

    -- an entry of either form is the number
    reads : (small : Bool) (r : ℕ) → r < 2 ^ 16 → Reading Go 𝓛 Before E (literal small r) (vint w16 r)
    reads true r f = lit ! (lt→ltb r (2 ^ 16) f)
    reads false r f = record { go = λ K h. via 𝓤 (K (vint w16 r)) h (guard_i 𝓤 (Fits w16 r) (K (vint w16 r)) (record { fits = f })) }

    -- an arm whose number is the root of the sample does what is asked
    one_arm : (r : ℕ) → Greatest (10000 * sample) r → Sq 𝓛 Before (runs C Λ E (sets r) Behind)
    one_arm r is =
        let f : r < 2 ^ 16 = omega (arith, fits_most sample r within is.fits) in
        assigns_last ! (of_opd ! (reads (ltb r 1024) r f)) (from ! (stop !)) (init ! 0 refl (tt, record { fits = f })) $ leaves r is f

    -- So do arms of roots, from any place on that the sample isn't before. N is what is known once the arms before were
    -- passed by: that none of their places is the sample.
    all_arms : (N : Type 0) (at : ℕ) (rs : List ℕ) → are_roots at rs ≡ true → (N → at ≤ sample) → sample < at + length rs
        → Cases Go 𝓛 Before C Λ E Behind N (arms_of at rs) sample
    all_arms N at [] t low high = λ n. absurd (omega (arith, low n))
    all_arms N at (r ∷ rs) t low high =
        let tests = both (is_root at r) (are_roots (suc at) rs) t in (
          λ e. one_arm r (subst (λ (k : ℕ). Greatest (10000 * k) r) (sym e) (root_at at r tests.0)),
          all_arms (N × (sample ≡ at → ⊥)) (suc at) rs tests.1 (λ n. omega (arith, low n.0, n.1)) (omega arith),
        )

    -- a match on the sample, whatever its arms are: so the code's own are never written out
    switched : (arms : Arms) → Cases Go 𝓛 Before C Λ E Behind (Unit {0}) arms sample
        → Sq 𝓛 Before (runs C Λ E (switch (copy (place 1 [])) arms) Behind)
    switched arms cases = switches ! {arms = arms} (load ! (from ! (stop !)) (look ! 2 refl)) cases

    -- the match: all arms, those of the code
    matched : Sq 𝓛 Before (runs C Λ E parts.s-1 Behind)
    matched =
        let found = all_arms (Unit {0}) 0 entries tested (λ _. omega arith) (omega (arith, entries_counted)) in
        switched (arms_in parts.s-1) (subst (λ (arms : Arms). Cases Go 𝓛 Before C Λ E Behind (Unit {0}) arms sample) same found)

  module _ (C : Calls 𝓤 H) (Λ : Loops 𝓤 H) where
    -- the function, from its argument to its return
    body : ent 𝓤 (on_entry 𝓛 entry.signature tt tt (sample, tt) (vint w16 sample ∷ [], tt))
        (WpFn 𝓤 H C Λ code.function (vint w16 sample ∷ []) Post)
    body =
        qed 𝓛 (‵ ftrue ∷ ‵ (owns (u16 ∷ []) (sample, tt) (vint w16 sample ∷ [], tt)) ∷ []) ∵
        drop ! $ drop ! $ enter ! C Λ code.function (vint w16 sample ∷ []) _ $
        alloc1 ! (λ result. alloc1 ! (λ argument. alloc1 ! (λ value. alloc0 ! $
        params1 ! $ pass1 ! (init ! 2 refl (tt, record { fits = fits })) $ pass0 ! $ first ! $ matched C Λ result argument value)))

-- and so for every argument that the contract takes
pub entry_spec : {M : Type 1} → stated.statement M
entry_spec 𝓤 𝓛 𝓜 𝓡 wired =
    let c = entry.clauses 𝓛 𝓜.mem 𝓡.returns in let 𝓣 = tables 𝓤 𝓛.H 𝓜 𝓡 𝓡.env in
    proved 𝓛 entry.ended stays c 𝓜 𝓡 (Goes-none 𝓛 0 (λ _. u16) yes (λ κs x f. refl), tt)
    entry.Key.name code.function (code.unfolded 𝓤 𝓛.H 𝓜 𝓡 wired)
    (λ κs. (uint_vals w16, tt)) (λ κs. (uint_Tells w16, tt))
    (λ κs qs bounds a g are. needs 𝓤 _ _ (λ within. body 𝓛 𝓜.mem 𝓡.returns a.0 within are.0.1 𝓣.C 𝓣.Λ))
