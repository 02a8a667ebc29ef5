-- R34, R35. The commands of a message, and the responses to them.
use Rattle.std.specs.Prelude.{ℕ, zero, suc, List, [], ◌++◌, take, drop}
use Rattle.frame.specs.Entry.{entry_size}
use Rattle.fields.specs.Place.{parameters_of}
use Rattle.fields.specs.Fields.{command_of}
use Rattle.fields.specs.declared.CommandFields.{CommandFields}
use Rattle.objects.specs.Methods.{method_number}
use Rattle.device.specs.Run.{run_of}
use Rattle.device.specs.declared.Device.{Device}
use Rattle.device.specs.Run.{Ran}
use Rattle.replies.specs.Bytes.{response_bytes}

-- R34. The command of these fields and this part, from connection n.
unfoldable pub ran_with : Device → ℕ → CommandFields → List ℕ → Ran
ran_with d n c part = run_of d n c.target (method_number c.method.level c.method.index) c.count part

-- R34. The first entry of some data, run.
unfoldable pub ran_first : Device → ℕ → ℕ → List ℕ → Ran
ran_first d n kind t =
    ran_with d n (command_of (take (entry_size kind t) t)) (parameters_of kind (take (entry_size kind t) t))

-- R34. The device after so many entries.
unfoldable pub last_of : ℕ → Device → ℕ → ℕ → List ℕ → Device
last_of zero d n kind t = d
last_of (suc k) d n kind t = last_of k (ran_first d n kind t).device n kind (drop (entry_size kind t) t)

-- R35. The response to the first entry.
unfoldable pub response_to : Device → ℕ → ℕ → List ℕ → List ℕ
response_to d n kind t = response_bytes (command_of (take (entry_size kind t) t)).handle (ran_first d n kind t).answer

-- R35. The responses to so many entries, one behind another.
unfoldable pub responses_of : ℕ → Device → ℕ → ℕ → List ℕ → List ℕ
responses_of zero d n kind t = []
responses_of (suc k) d n kind t =
    response_to d n kind t ++ responses_of k (ran_first d n kind t).device n kind (drop (entry_size kind t) t)
