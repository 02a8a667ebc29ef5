-- R75 to R77. A datagram on the reset mechanism's port, and what its call promises.
use Rattle.std.specs.Prelude.{ℕ, ◌≡◌, cond, List, []}
use Rattle.octets.specs.Zeros.{zeros}
use Rattle.mechanism.specs.Datagram.{resets}
use Rattle.area.specs.Area.{area_bytes, area_sound}
use Rattle.answers.specs.Numbers.{answer_numbers, resetting_numbers}
use Rattle.answers.specs.declared.Resetting.{Resetting}
use Rattle.answers.specs.declared.Resetting.TheVariants as resetting
use Rattle.endpoint.specs.State.{fresh_state, record_obeys}
use Rattle.numbers.specs.Refusal.{bad_record, bad_area}
use Rattle.endpoint.specs.Outcome.{Outcome, outcome, refused}
use Rattle.endpoint.specs.declared.Record.{Record}
use Rattle.endpoint.specs.declared.Handed.{Handed}

-- R76. A reset: a fresh record at the last reading, and an area of zeros.
unfoldable pub restarted : Record → Outcome
restarted r = outcome (resetting_numbers resetting.Done) (fresh_state r.device.reading) (zeros area_bytes) []

-- R64, R77. Datagram: 1, then 2, else a reset or nothing.
unfoldable pub datagram_call : Record → List ℕ → List ℕ → Outcome
datagram_call r area datagram =
    cond (record_obeys r)
    (cond (area_sound r.held area)
    (cond (resets r.device.mechanism datagram) (restarted r) (outcome (resetting_numbers resetting.Nothing) r area []))
    (refused bad_area r area []))
    (refused bad_record r area [])

-- R68, R77. Datagram gives r and leaves the area so.
abbrev pub DatagramGives : Record → List ℕ → List ℕ → Handed Resetting → List ℕ → Type 0
DatagramGives state area datagram r left =
    outcome (answer_numbers resetting_numbers r.answer) r.state left [] ≡ datagram_call state area datagram
