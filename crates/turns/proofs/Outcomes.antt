-- How a turn ends, by what was read and handed over. Assumes nothing.
use Rattle.std.proofs.Common.{◌≡◌, ◌≢◌, ℕ, Bool, true, false, refl, sym, ap, Ok, Err, Some, None, Result, IsOk, IsErr, OnOk, OnErr, cond}
use Rattle.std.specs.Result.{IsErrAnd, IsOkUnless, result_unwrap_or}
use Rattle.std.specs.declared.option.Option.{Option}
use Rattle.turns.specs.declared.Held.{Held}
use Rattle.turns.specs.declared.Stopped.{Stopped}
use Rattle.turns.specs.declared.Stopped.TheVariants.{Unread, Unsaid, Limit}

-- the first failure, or else what comes next
abbrev pub outcome_of : Result ℕ Stopped → Result (Unit {0}) Stopped → Bool → Held → Result (Option Held) Stopped
outcome_of (Err e) u over next = Err e
outcome_of (Ok n) (Err e) over next = Err e
outcome_of (Ok n) (Ok t) over next = Ok (cond over None (Some next))

-- a read alone is said to have failed
pub unread_none : (c : Result ℕ Stopped) (u : Result (Unit {0}) Stopped) (b : Bool) (h : Held) → IsOkUnless u Unsaid
    → outcome_of c u b h ≡ Err Unread → result_unwrap_or c 0 ≡ 0
unread_none (Err e) u b h w q = refl
unread_none (Ok n) (Err e) b h w q = cc
unread_none (Ok n) (Ok t) b h w q = cc

pub read_fine : (c : Result ℕ Stopped) (u : Result (Unit {0}) Stopped) (b : Bool) (h : Held) → IsOkUnless c Unread
    → outcome_of c u b h ≢ Err Unread → IsOk c
read_fine (Err e) u b h w q = absurd (q (ap Err w))
read_fine (Ok n) u b h w q = refl

pub unread_failed : (c : Result ℕ Stopped) (u : Result (Unit {0}) Stopped) (b : Bool) (h : Held) → IsOkUnless u Unsaid
    → outcome_of c u b h ≡ Err Unread → IsOk c → ⊥
unread_failed (Err e) u b h w q o = cc
unread_failed (Ok n) (Err e) b h w q o = cc
unread_failed (Ok n) (Ok t) b h w q o = cc

pub unsaid_failed : (c : Result ℕ Stopped) (u : Result (Unit {0}) Stopped) (b : Bool) (h : Held) → IsOkUnless c Unread
    → outcome_of c u b h ≡ Err Unsaid → IsErr u
unsaid_failed (Err e) u b h w q = cc
unsaid_failed (Ok n) (Err e) b h w q = refl
unsaid_failed (Ok n) (Ok t) b h w q = cc

pub all_fine : (c : Result ℕ Stopped) (u : Result (Unit {0}) Stopped) (b : Bool) (h : Held) → IsOk (outcome_of c u b h) → IsOk u
all_fine (Err e) u b h q = cc
all_fine (Ok n) (Err e) b h q = cc
all_fine (Ok n) (Ok t) b h q = refl

pub next_is : (c : Result ℕ Stopped) (u : Result (Unit {0}) Stopped) (b : Bool) (h x : Held) → outcome_of c u b h ≡ Ok (Some x) → (b ≡ false) × (x ≡ h)
next_is (Err e) u b h x q = cc
next_is (Ok n) (Err e) b h x q = cc
next_is (Ok n) (Ok t) true h x q = cc
next_is (Ok n) (Ok t) false h x q = (refl, cc)

pub over_is : (c : Result ℕ Stopped) (u : Result (Unit {0}) Stopped) (b : Bool) (h : Held) → outcome_of c u b h ≡ Ok None → b ≡ true
over_is (Err e) u b h q = cc
over_is (Ok n) (Err e) b h q = cc
over_is (Ok n) (Ok t) true h q = refl
over_is (Ok n) (Ok t) false h q = cc

pub no_limit : (c : Result ℕ Stopped) (u : Result (Unit {0}) Stopped) (b : Bool) (h x : Held) → IsOkUnless c Unread → IsOkUnless u Unsaid
    → outcome_of c u b h ≢ Err (Limit x)
no_limit (Err e) u b h x w v = λ q. cc
no_limit (Ok n) (Err e) b h x w v = λ q. cc
no_limit (Ok n) (Ok t) b h x w v = λ q. cc

-- what is said of a value, or of an error
pub on_ok : {T E P : Type 0} (r : Result T E) → IsOk r → OnOk r P → P
on_ok (Ok x) o p = p
on_ok (Err e) o p = cc

pub on_err : {T E P : Type 0} (r : Result T E) → IsErr r → OnErr r P → P
on_err (Ok x) o p = cc
on_err (Err e) o p = p

-- the error that is handed up
pub handed_up : {T E : Type 0} (r : Result T E) (x : E) → IsErrAnd r (λ e. e ≡ x) → Err x ≡ r
handed_up (Ok y) x p = absurd p
handed_up (Err e) x p = ap Err (sym p)
