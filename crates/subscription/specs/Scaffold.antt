-- For the contracts of inner functions and for proofs: no rule is here.
use Rattle.std.specs.Prelude.{ℕ, Bool, cond, not, ◌&&◌, ◌||◌, List, [], ◌∷◌, eqb, ltb}
use Rattle.objects.specs.Methods.{change_event, is_mute}
use Rattle.subscription.specs.State.{free}
use Rattle.subscription.specs.Obeys.{is_context_kept, apart}
use Rattle.subscription.specs.declared.Subscription.{Subscription}

-- R61. Row g: an entry that is not used, by whether its context is kept: with count 0 that is all zero.
abbrev pub free_by : Bool → Subscription → Bool
free_by kept s =
    not s.used && not s.waiting && eqb s.connection 0 && eqb s.emitter 0 && eqb s.event 0 && eqb s.object 0
    && eqb s.method 0 && eqb s.context_count 0 && kept

-- R61. Rows h and m: a used entry keeps its rules, by whether its connection is open and its context kept.
abbrev pub sound_by : Bool → Bool → Subscription → Bool
sound_by live kept s = s.used && live && is_mute s.emitter && eqb s.event change_event && kept

-- R61. Rows h and m, by whether its connection is open.
abbrev pub sound_as : Bool → Subscription → Bool
sound_as live s = sound_by live (is_context_kept s.context_count s.context) s

-- R60. An entry swept, by whether its connection is open.
abbrev pub swept_by : Bool → Subscription → Subscription
swept_by live s = cond (s.used && not live) free s

-- R61. Row m: of the bytes of a context looked at so far none is other than zero past the count, and so is this one, at its place.
abbrev pub zero_past : ℕ → Bool → ℕ × ℕ → Bool
zero_past count kept p = kept && (ltb p.1 count || eqb p.0 0)

-- R61. Row m: the places of a context's bytes.
abbrev pub places : List ℕ
places =
    0 ∷ 1 ∷ 2 ∷ 3 ∷ 4 ∷ 5 ∷ 6 ∷ 7 ∷ 8 ∷ 9 ∷ 10 ∷ 11 ∷ 12 ∷ 13 ∷ 14 ∷ 15 ∷ 16 ∷ 17 ∷ 18 ∷ 19 ∷ 20 ∷ 21 ∷ 22 ∷ 23 ∷ 24 ∷ 25 ∷ 26 ∷ 27
    ∷ 28 ∷ 29 ∷ 30 ∷ 31 ∷ 32 ∷ 33 ∷ 34 ∷ 35 ∷ 36 ∷ 37 ∷ 38 ∷ 39 ∷ 40 ∷ 41 ∷ 42 ∷ 43 ∷ 44 ∷ 45 ∷ 46 ∷ 47 ∷ 48 ∷ 49 ∷ 50 ∷ 51 ∷ 52
    ∷ 53 ∷ 54 ∷ 55 ∷ 56 ∷ 57 ∷ 58 ∷ 59 ∷ 60 ∷ 61 ∷ 62 ∷ 63 ∷ []

-- R61. Row i: an entry t before s is not the same subscription.
abbrev pub is_apart_of : Subscription → Subscription → Bool
is_apart_of s t = apart t s
