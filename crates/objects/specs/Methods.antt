-- R10, R37, R38. The objects and their methods.
use Rattle.std.specs.Prelude.{ℕ, ◌+◌, ◌*◌, ◌-◌, ◌≡◌, ◌≢◌, Bool, ◌&&◌, ◌||◌, eqb, leb, Result, MatchResult}
use Rattle.numbers.specs.declared.Status.{Status}
use Rattle.numbers.specs.declared.Status.TheVariants as status
use Rattle.objects.specs.declared.Method.{Method}
use Rattle.objects.specs.declared.Method.TheVariants as method

-- R37. The device manager's object number.
abbrev pub device_manager : ℕ
device_manager = 1

-- R37. The subscription manager's object number.
abbrev pub subscription_manager : ℕ
subscription_manager = 4

-- R37. The first mute's object number.
abbrev pub first_mute : ℕ
first_mute = 4097

-- R37. The last mute's object number.
abbrev pub last_mute : ℕ
last_mute = 4104

-- R37. The object is a mute.
unfoldable pub is_mute : ℕ → Bool
is_mute object = leb first_mute object && leb object last_mute

-- R10. Level and index as one number.
abbrev pub method_number : ℕ → ℕ → ℕ
method_number level index = level * 65536 + index

-- R38. Class identification, 1.1.
abbrev pub class_method : ℕ
class_method = method_number 1 1

-- R38. Lockable, 1.2.
abbrev pub lockable_method : ℕ
lockable_method = method_number 1 2

-- R38. Lock, 1.3.
abbrev pub lock_method : ℕ
lock_method = method_number 1 3

-- R38. Unlock, 1.4.
abbrev pub unlock_method : ℕ
unlock_method = method_number 1 4

-- R38. Get, 4.1.
abbrev pub get_method : ℕ
get_method = method_number 4 1

-- R38. Set, 4.2.
abbrev pub set_method : ℕ
set_method = method_number 4 2

-- R38. Add a subscription, 3.1.
abbrev pub add_method : ℕ
add_method = method_number 3 1

-- R38. Remove a subscription, 3.2.
abbrev pub remove_method : ℕ
remove_method = method_number 3 2

-- R38. Set the reset key, 3.14.
abbrev pub reset_key_method : ℕ
reset_key_method = method_number 3 14

-- R38. The number of a method.
abbrev pub method_of : Method → ℕ
method_of method.Class = class_method
method_of method.Lockable = lockable_method
method_of method.Lock = lock_method
method_of method.Unlock = unlock_method
method_of method.Add = add_method
method_of method.Remove = remove_method
method_of method.ResetKey = reset_key_method
method_of method.Get = get_method
method_of method.Set = set_method

-- R38. The method of number m; status 11 where there is none.
abbrev pub Names : ℕ → Result Method Status → Type 0
Names m r = MatchResult r (λ x. method_of x ≡ m) (λ s. (s ≡ status.NoMethod) × ((x : Method) → method_of x ≢ m))

-- R40. Event 1.1, the only one that can be subscribed to, as one number (R10).
abbrev pub change_event : ℕ
change_event = method_number 1 1

-- R48. The property of a mute that changes, 4.1.
abbrev pub mute_property : ℕ
mute_property = method_number 4 1

-- R3. A mute's place among the eight.
unfoldable pub place_of : ℕ → ℕ
place_of target = target - first_mute

-- R37. The object is one of the two managers.
unfoldable pub is_manager : ℕ → Bool
is_manager target = eqb target device_manager || eqb target subscription_manager

-- R37. There is such an object.
unfoldable pub is_object : ℕ → Bool
is_object target = is_manager target || is_mute target

-- R38. Class identification or lockable.
unfoldable pub is_telling : ℕ → Bool
is_telling m = eqb m class_method || eqb m lockable_method

-- R38. Lock or unlock.
unfoldable pub is_locking : ℕ → Bool
is_locking m = eqb m lock_method || eqb m unlock_method

-- R38. Get or set.
unfoldable pub is_muting : ℕ → Bool
is_muting m = eqb m get_method || eqb m set_method

-- R38. Add or remove.
unfoldable pub is_subscribing : ℕ → Bool
is_subscribing m = eqb m add_method || eqb m remove_method

-- R38. The object has that method.
unfoldable pub has_method : ℕ → ℕ → Bool
has_method target m =
    is_telling m || is_locking m || (is_muting m && is_mute target) || (is_subscribing m && eqb target subscription_manager)
    || (eqb m reset_key_method && eqb target device_manager)
