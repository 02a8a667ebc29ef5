-- What adds, removes and 3.14 do, each told by the part of the device that it concerns: no rule is here.
use Rattle.std.specs.Prelude.{ℕ, ◌≡◌, cond, List, ltb, length, get_or, set, Option, Some, None}
use Rattle.mechanism.specs.declared.Mechanism.{Mechanism}
use Rattle.subscription.specs.Setters.{without_context}
use Rattle.subscription.specs.State.{entry_count, free, twin_at, lowest_unused}
use Rattle.subscription.specs.Arguments.{subscription_from}
use Rattle.subscription.specs.declared.Subscription.{Subscription}
use Rattle.objects.specs.Methods.{subscription_manager, add_method, remove_method, reset_key_method}
use Rattle.objects.specs.Answers.{Carried}
use Rattle.device.specs.Setters.{with_subscriptions, with_mechanism}
use Rattle.device.specs.Run.{unchanged, run_of}
use Rattle.device.specs.declared.Device.{Device}
use Rattle.device.specs.Run.{Ran}

-- An entry at its place; at 32 there is none.
pub record Slot : Type 0 where
  pub place : ℕ
  pub entry : Subscription

-- What an add or a remove left of a slot, and answers.
pub record Booked : Type 0 where
  pub slot : Slot
  pub answer : Carried

-- What 3.14 left of the mechanism, and answers.
pub record Armed : Type 0 where
  pub mechanism : Mechanism
  pub answer : Carried

-- What 3.14 did.
abbrev pub armed : Mechanism → Carried → Armed
armed m answer = record { mechanism = m; answer = answer }

-- The entry at a place, which is free past the last.
abbrev pub slot_at : List Subscription → ℕ → Slot
slot_at entries place = record { place = place; entry = get_or entries place free }

-- The twin's place, else the lowest unused one.
unfoldable pub slot_for : List Subscription → Subscription → Slot
slot_for entries wanted =
    cond (ltb (twin_at wanted entries) entry_count) (slot_at entries (twin_at wanted entries)) (slot_at entries (lowest_unused entries))

-- The slot that a search for it hands up.
abbrev pub slot_found : List Subscription → Option ℕ → Slot
slot_found entries None = record { place = entry_count; entry = free }
slot_found entries (Some place) = slot_at entries place

-- An answer with the slot as it was.
abbrev pub same_booked : Slot → Carried → Booked
same_booked slot answer = record { slot = slot; answer = answer }

-- The entries with that of the slot, if it has a place.
abbrev pub stored_in : List Subscription → Slot → List Subscription
stored_in entries slot = cond (ltb slot.place entry_count) (set entries slot.place slot.entry) entries

-- An add or a remove, in a whole device.
abbrev pub booked_in : Device → List Subscription → Booked → Ran
booked_in d entries r = unchanged (with_subscriptions d (stored_in entries r.slot)) r.answer

-- Whatever the rest of the device is, r is the command's outcome.
pub record Books (entries : List Subscription) (n target m count : ℕ) (part : List ℕ) (r : Booked) : Type 0 where
  pub whole : (d : Device) → booked_in d entries r ≡ run_of (with_subscriptions d entries) n target m count part

-- Whichever entries it is the slot of, r is the outcome of an add.
pub record Subscribes (slot : Slot) (wanted : Subscription) (part : List ℕ) (r : Booked) : Type 0 where
  pub books : (entries : List Subscription) (n : ℕ) → length entries ≡ entry_count → wanted ≡ without_context (subscription_from n part)
      → slot ≡ slot_for entries wanted → Books entries n subscription_manager add_method 5 part r

-- Whichever entries it is the slot of, r is the outcome of a remove.
pub record Unsubscribes (slot : Slot) (part : List ℕ) (r : Booked) : Type 0 where
  pub books : (entries : List Subscription) (n : ℕ) → length entries ≡ entry_count
      → slot ≡ slot_for entries (subscription_from n part) → Books entries n subscription_manager remove_method 2 part r

-- The entries of an add or a remove that answers so, whatever the rest of the device is.
pub record Stores (entries after : List Subscription) (n m count : ℕ) (part : List ℕ) (answer : Carried) : Type 0 where
  pub slot : Slot
  pub stored : after ≡ stored_in entries slot
  pub books : Books entries n subscription_manager m count part (record { slot = slot; answer = answer })

-- A setting of the reset key, in a whole device.
abbrev pub armed_in : Device → Armed → Ran
armed_in d r = unchanged (with_mechanism d r.mechanism) r.answer

-- Whatever the rest of the device is, and whichever connection, r is the outcome of 3.14.
pub record Arms (mechanism : Mechanism) (target count : ℕ) (part : List ℕ) (r : Armed) : Type 0 where
  pub whole : (d : Device) (n : ℕ) → armed_in d r ≡ run_of (with_mechanism d mechanism) n target reset_key_method count part
