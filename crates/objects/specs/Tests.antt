-- R40, R43, R44. The tests of a command that need no device.
use Rattle.std.specs.Prelude.{ℕ, ◌+◌, ◌≡◌, Result, MatchResult, Bool, cond, not, ◌&&◌, ◌||◌, List, ltb, eqb, length, get_or}
use Rattle.numbers.specs.Status.{no_object, no_method, forbidden, malformed, carried_out, status_number}
use Rattle.numbers.specs.declared.Status.{Status}
use Rattle.octets.specs.Numbers.{be16_at}
use Rattle.frame.specs.Limits.{greatest_context}
use Rattle.mechanism.specs.Arguments.{is_misfit, is_untaken}
use Rattle.objects.specs.declared.Method.{Method}
use Rattle.objects.specs.Methods.{method_of}
use Rattle.objects.specs.Methods.{set_method, add_method, remove_method, reset_key_method, is_manager, is_object, is_locking, has_method}

-- R40. Status 8: lock or unlock of a manager.
unfoldable pub is_forbidden : ℕ → ℕ → Bool
is_forbidden target m = is_locking m && is_manager target

-- R38. The parameter count that a method takes.
unfoldable pub count_of : ℕ → ℕ
count_of m = cond (eqb m set_method) 1 (cond (eqb m add_method) 5 (cond (eqb m remove_method) 2 (cond (eqb m reset_key_method) 2 0)))

-- R38. The bytes that the context of 3.1 has by its count, which stands behind emitter, event and subscriber.
unfoldable pub context_given : List ℕ → ℕ
context_given part = be16_at part 16

-- R38. Where that context starts.
abbrev pub context_start_given : ℕ
context_start_given = 18

-- R38. The mode of 3.1, behind the context.
abbrev pub mode_given : List ℕ → ℕ
mode_given part = get_or part (18 + context_given part) 0

-- R38. The length that a method's parameters have: 3.1 has 21 bytes and the context's, that of 3.14 is told by its text.
unfoldable pub length_of : ℕ → List ℕ → ℕ
length_of m part =
    cond (eqb m set_method) 1 (cond (eqb m add_method) (21 + context_given part) (cond (eqb m remove_method) 16 0))

-- R40. Status 4: the parameters have another length.
unfoldable pub is_length_bad : ℕ → List ℕ → Bool
is_length_bad m part = cond (eqb m reset_key_method) (is_misfit part) (not (eqb (length part) (length_of m part)))

-- R40. Status 4: the last two bytes of 3.1 are not 0, 0.
unfoldable pub is_pair_bad : ℕ → List ℕ → Bool
is_pair_bad m part =
    eqb m add_method && not (eqb (get_or part (19 + context_given part) 0) 0 && eqb (get_or part (20 + context_given part) 0) 0)

-- R40. Status 4: wrong parameter count, length or last pair.
unfoldable pub is_malformed : ℕ → ℕ → List ℕ → Bool
is_malformed m count part = not (eqb count (count_of m)) || is_length_bad m part || is_pair_bad m part

-- R43. The value of a mute that is muted.
abbrev pub muted : ℕ
muted = 1

-- R43. The value of one that is not, at which all start.
abbrev pub unmuted : ℕ
unmuted = 2

-- R61. Row j: the value is one that a mute can have.
unfoldable pub is_mute_value : ℕ → Bool
is_mute_value v = eqb v muted || eqb v unmuted

-- R40. Status 7: the mode of 3.1 is not 1, or its context has more than 64 bytes.
unfoldable pub is_add_bad : List ℕ → Bool
is_add_bad part = not (eqb (mode_given part) 1) || ltb greatest_context (context_given part)

-- R40. Status 7: a mode, a context, a mute's value, a text or a port that is not taken.
unfoldable pub is_value_bad : ℕ → List ℕ → Bool
is_value_bad m part =
    (eqb m add_method && is_add_bad part) || (eqb m set_method && not (is_mute_value (get_or part 0 0)))
    || (eqb m reset_key_method && is_untaken part)

-- R40. The first that applies of those that need no device; 0 where none does.
unfoldable pub first_status : ℕ → ℕ → ℕ → List ℕ → ℕ
first_status target m count part =
    cond (not (is_object target)) no_object
    (cond (not (has_method target m)) no_method
    (cond (is_forbidden target m) forbidden
    (cond (is_malformed m count part) malformed
    carried_out)))

-- R40. The method where none of them applies, and the first that does.
abbrev pub FirstStatus : ℕ → ℕ → ℕ → List ℕ → Result Method Status → Type 0
FirstStatus target m count part r =
    MatchResult r
    (λ x. (method_of x ≡ m) × (first_status target m count part ≡ carried_out))
    (λ s. status_number s ≡ first_status target m count part)
