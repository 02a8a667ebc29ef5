-- R68. The numbers of an answer that refuses nothing tell it from every other that does not: the laws of the types that tell.
use Rattle.std.specs.Prelude.{ℕ, ◌≡◌, refl}
use Rattle.std.proofs.Common.{arith}
use Rattle.numbers.specs.Fault.{fault_number}
use Rattle.numbers.proofs.Tables.{numbers_table}
use Rattle.answers.specs.Numbers.{opening_numbers, closing_numbers, delivery_numbers, taking_numbers, resetting_numbers}
use Rattle.answers.specs.declared.Delivery.{Delivery}
use Rattle.answers.specs.declared.Delivery.TheVariants as delivery
use Rattle.answers.specs.declared.Taking.{Taking}
use Rattle.answers.specs.declared.Taking.TheVariants as taking
use Rattle.answers.specs.declared.Resetting.{Resetting}
use Rattle.answers.specs.declared.Resetting.TheVariants as resetting

-- R68. Done is the one such answer of clear and of close.
pub units_tell : (a b : Unit {0}) → closing_numbers a ≡ closing_numbers b → a ≡ b
units_tell a b e = refl

-- R68. Of open and of tick.
pub bytes_tell : (a b : ℕ) → opening_numbers a ≡ opening_numbers b → a ≡ b
bytes_tell a b e = cc

-- R68. Of deliver.
pub deliveries_tell : (a b : Delivery) → delivery_numbers a ≡ delivery_numbers b → a ≡ b
deliveries_tell (delivery.More t) (delivery.More u) e = cc
deliveries_tell (delivery.Message t l) (delivery.Message u m) e = cc
deliveries_tell (delivery.Closed t f) (delivery.Closed u g) e =
    let n : fault_number f ≡ fault_number g = cc in
    let k : f ≡ g = numbers_table.names.fault_told f g n in
    cc
deliveries_tell (delivery.More t) (delivery.Message u m) e = grind arith
deliveries_tell (delivery.More t) (delivery.Closed u g) e = grind arith
deliveries_tell (delivery.Message t l) (delivery.More u) e = grind arith
deliveries_tell (delivery.Message t l) (delivery.Closed u g) e = grind arith
deliveries_tell (delivery.Closed t f) (delivery.More u) e = grind arith
deliveries_tell (delivery.Closed t f) (delivery.Message u m) e = grind arith

-- R68. Of take.
pub takings_tell : (a b : Taking) → taking_numbers a ≡ taking_numbers b → a ≡ b
takings_tell taking.Nothing taking.Nothing e = refl
takings_tell (taking.Notification n l) (taking.Notification k m) e = cc
takings_tell (taking.KeepAlive n l) (taking.KeepAlive k m) e = cc
takings_tell taking.Nothing (taking.Notification k m) e = grind arith
takings_tell taking.Nothing (taking.KeepAlive k m) e = grind arith
takings_tell (taking.Notification n l) taking.Nothing e = grind arith
takings_tell (taking.Notification n l) (taking.KeepAlive k m) e = grind arith
takings_tell (taking.KeepAlive n l) taking.Nothing e = grind arith
takings_tell (taking.KeepAlive n l) (taking.Notification k m) e = grind arith

-- R68. Of a datagram.
pub resettings_tell : (a b : Resetting) → resetting_numbers a ≡ resetting_numbers b → a ≡ b
resettings_tell resetting.Nothing resetting.Nothing e = refl
resettings_tell resetting.Done resetting.Done e = refl
resettings_tell resetting.Nothing resetting.Done e = grind arith
resettings_tell resetting.Done resetting.Nothing e = grind arith
