-- R17, R40, R63, R66. Each name with its number: a number changed elsewhere is refused here.
use Rattle.std.specs.Prelude.{◌≡◌, ◌≢◌, List, [], ◌∷◌, ◌++◌, map}
use Rattle.numbers.specs.Refusal.{not_refused, bad_record, bad_area, no_connection, no_room, table_full}
use Rattle.numbers.specs.Refusal.{clock_back, fault, short, too_long, bad_entry, no_entry, refusal_number, refusal_numbers, refusals}
use Rattle.numbers.specs.Fault.{fault_start, fault_version, fault_size, fault_type, fault_count, fault_data, fault_number, faults}
use Rattle.numbers.specs.Kind.{kind_more, kind_message, kind_closed}
use Rattle.numbers.specs.Kind.{kind_nothing, kind_notification, kind_keep_alive, kind_unchanged, kind_reset}
use Rattle.numbers.specs.Status.{no_object, no_method, forbidden, malformed, held_by_other}
use Rattle.numbers.specs.Status.{strange_emitter, bad_value, out_of_turn, no_free_entry, carried_out, status_number, statuses}
use Rattle.numbers.specs.declared.Fault.{Fault}
use Rattle.numbers.specs.declared.Fault.TheVariants as fault_named
use Rattle.numbers.specs.declared.Refusal.{Refusal}
use Rattle.numbers.specs.declared.Refusal.TheVariants as refusal_named
use Rattle.numbers.specs.declared.Status.{Status}
use Rattle.numbers.specs.declared.Status.TheVariants as status_named

-- R63. The refusals, name by number; no name has 7.
pub record RefusalTable : Type 0 where
  pub refusal0 : not_refused ≡ 0
  pub refusal1 : bad_record ≡ 1
  pub refusal2 : bad_area ≡ 2
  pub refusal3 : no_connection ≡ 3
  pub refusal4 : no_room ≡ 4
  pub refusal5 : table_full ≡ 5
  pub refusal6 : clock_back ≡ 6
  pub refusal8 : fault ≡ 8
  pub refusal9 : short ≡ 9
  pub refusal10 : too_long ≡ 10
  pub refusal11 : bad_entry ≡ 11
  pub refusal12 : no_entry ≡ 12

-- R17. The faults, name by number.
pub record FaultTable : Type 0 where
  pub fault1 : fault_start ≡ 1
  pub fault2 : fault_version ≡ 2
  pub fault3 : fault_size ≡ 3
  pub fault4 : fault_type ≡ 4
  pub fault5 : fault_count ≡ 5
  pub fault6 : fault_data ≡ 6

-- R66. The kinds of a delivery's answer.
pub record DeliveryKinds : Type 0 where
  pub kind1 : kind_more ≡ 1
  pub kind2 : kind_message ≡ 2
  pub kind3 : kind_closed ≡ 3

-- R66. The kinds of a taking's answer.
pub record TakingKinds : Type 0 where
  pub kind0 : kind_nothing ≡ 0
  pub kind1 : kind_notification ≡ 1
  pub kind2 : kind_keep_alive ≡ 2

-- R66. The kinds of a datagram's answer.
pub record DatagramKinds : Type 0 where
  pub kind0 : kind_unchanged ≡ 0
  pub kind1 : kind_reset ≡ 1

-- R40. The statuses, name by number.
pub record StatusTable : Type 0 where
  pub status5 : no_object ≡ 5
  pub status11 : no_method ≡ 11
  pub status8 : forbidden ≡ 8
  pub status4 : malformed ≡ 4
  pub status3 : held_by_other ≡ 3
  pub status6 : strange_emitter ≡ 6
  pub status7 : bad_value ≡ 7
  pub status9 : out_of_turn ≡ 9
  pub status10 : no_free_entry ≡ 10
  pub status0 : carried_out ≡ 0

-- R17. Every fault, in the order of the numbers.
abbrev pub fault_names : List Fault
fault_names =
    fault_named.Start ∷ fault_named.Version ∷ fault_named.Size ∷ fault_named.Type ∷ fault_named.Count ∷ fault_named.Data ∷ []

-- R63. Every refusal, in the order of the numbers, with a fault where the bytes decide one.
abbrev pub refusal_names : Fault → List Refusal
refusal_names f =
    refusal_named.BadRecord ∷ refusal_named.BadArea ∷ refusal_named.NoConnection ∷ refusal_named.NoRoom ∷ refusal_named.TableFull
    ∷ refusal_named.ClockBack ∷ refusal_named.Fault f ∷ refusal_named.Short ∷ refusal_named.TooLong ∷ refusal_named.BadEntry
    ∷ refusal_named.NoEntry ∷ []

-- R40. Every status of a failure, in the order in which they are tried.
abbrev pub status_names : List Status
status_names =
    status_named.NoObject ∷ status_named.NoMethod ∷ status_named.Forbidden ∷ status_named.Malformed ∷ status_named.HeldByOther
    ∷ status_named.StrangeEmitter ∷ status_named.BadValue ∷ status_named.OutOfTurn ∷ status_named.NoFreeEntry ∷ []

-- R17, R40, R63. What is told of a fault, a refusal or a status tells it from every other; no refusal tells 0 or 7, and no status
-- of a failure 0.
pub record NamesTell : Type 0 where
  pub fault_told : (f g : Fault) → fault_number f ≡ fault_number g → f ≡ g
  pub refusal_told : (r q : Refusal) → refusal_numbers r ≡ refusal_numbers q → r ≡ q
  pub status_told : (s t : Status) → status_number s ≡ status_number t → s ≡ t
  pub refused : (r : Refusal) → refusal_number r ≢ not_refused
  pub no_seven : (r : Refusal) → refusal_number r ≢ 7
  pub failed : (s : Status) → status_number s ≢ carried_out
  -- the names in their order have the numbers of the lists; a command that is carried out is tried last
  pub every_fault : map fault_number fault_names ≡ faults
  pub every_refusal : (f : Fault) → map refusal_number (refusal_names f) ≡ refusals
  pub every_status : map status_number status_names ++ carried_out ∷ [] ≡ statuses

-- Theorem. Every refusal, fault, kind and status has the number that its table prints, and no other has it.
pub record NumbersTable : Type 0 where
  pub refusals : RefusalTable
  pub faults : FaultTable
  pub deliveries : DeliveryKinds
  pub takings : TakingKinds
  pub datagrams : DatagramKinds
  pub statuses : StatusTable
  pub names : NamesTell
