-- R38, R39, R41. The parameters of a command's response.
use Rattle.std.specs.Prelude.{ℕ, cond, List, [], ◌∷◌, ◌++◌, eqb, length, replicate, Result, Ok, Err}
use Rattle.std.proofs.lemmas.List.Edits.{sets}
use Rattle.numbers.specs.Status.{carried_out, status_number}
use Rattle.numbers.specs.declared.Status.{Status}
use Rattle.octets.specs.Numbers.{bytes16}
use Rattle.objects.specs.Methods.{device_manager, is_mute, class_method, lockable_method, get_method}
use Rattle.objects.specs.declared.Class.{Class}
use Rattle.objects.specs.declared.Class.TheVariants as class
use Rattle.objects.specs.declared.Reply.{Reply}
use Rattle.objects.specs.declared.Reply.TheVariants as reply

-- R38, R41. What a response carries: its status, how many parameters there are, and their bytes.
pub record Carried : Type 0 where
  pub status : ℕ
  pub count : ℕ
  pub length : ℕ
  pub bytes : List ℕ

-- R39. The most bytes that a response's parameters have: a mute's class identification.
abbrev pub reply_room : ℕ
reply_room = 12

-- R39. A class's fields, in 2 bytes each.
abbrev pub field_bytes : List ℕ → List ℕ
field_bytes [] = []
field_bytes (x ∷ xs) = bytes16 x ++ field_bytes xs

-- R37. The fields of an object's class.
unfoldable pub class_of : ℕ → List ℕ
class_of target = cond (is_mute target) (1 ∷ 1 ∷ 1 ∷ 2 ∷ []) (cond (eqb target device_manager) (1 ∷ 3 ∷ 1 ∷ []) (1 ∷ 3 ∷ 4 ∷ []))

-- R37. The version of every class.
abbrev pub class_version : ℕ
class_version = 1

-- R39. The bytes of a class identification.
unfoldable pub identification_of : List ℕ → List ℕ
identification_of fields = bytes16 (length fields) ++ field_bytes fields ++ bytes16 class_version

-- R38. The parameters of a response with status 0; value is the mute's.
unfoldable pub reply_of : ℕ → ℕ → ℕ → List ℕ
reply_of target m value =
    cond (eqb m class_method) (identification_of (class_of target))
    (cond (eqb m lockable_method) (cond (is_mute target) 1 0 ∷ [])
    (cond (eqb m get_method) (value ∷ []) []))

-- R41. A response with another status: no parameters.
unfoldable pub failed_of : ℕ → Carried
failed_of status = record { status = status; count = 0; length = 0; bytes = replicate reply_room 0 }

-- R38. Status 0 with these bytes: one parameter, or none where there are no bytes.
unfoldable pub answer_with : List ℕ → Carried
answer_with bytes =
    record {
      status = carried_out;
      count = cond (eqb (length bytes) 0) 0 1;
      length = length bytes;
      bytes = sets (replicate reply_room 0) 0 bytes;
    }

-- R37. The fields of a class.
abbrev pub class_fields : Class → List ℕ
class_fields class.Mute = 1 ∷ 1 ∷ 1 ∷ 2 ∷ []
class_fields class.DeviceManager = 1 ∷ 3 ∷ 1 ∷ []
class_fields class.SubscriptionManager = 1 ∷ 3 ∷ 4 ∷ []

-- R38. How many parameters a reply has.
abbrev pub carried_count : Reply → ℕ
carried_count reply.Done = 0
carried_count (reply.Byte v) = 1
carried_count (reply.Class c) = 1

-- R38. The bytes of a reply's parameters.
abbrev pub carried_bytes : Reply → List ℕ
carried_bytes reply.Done = []
carried_bytes (reply.Byte v) = v ∷ []
carried_bytes (reply.Class c) = identification_of (class_fields c)

-- R38, R41. The answer of a command: status 0 with the reply, or another status.
abbrev pub answer_in : Result Reply Status → Carried
answer_in (Ok r) = answer_with (carried_bytes r)
answer_in (Err s) = failed_of (status_number s)
