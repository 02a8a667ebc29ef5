-- A device with one part changed, the only place but fresh that names every field: no rule is here.
use Rattle.std.specs.Prelude.{ℕ, List}
use Rattle.connection.specs.declared.Connection.{Connection}
use Rattle.mechanism.specs.declared.Mechanism.{Mechanism}
use Rattle.subscription.specs.declared.Subscription.{Subscription}
use Rattle.device.specs.declared.Device.{Device}

-- A device with another reading.
abbrev pub with_reading : Device → ℕ → Device
with_reading d reading =
    record {
      reading = reading;
      connections = d.connections;
      subscriptions = d.subscriptions;
      mutes = d.mutes;
      holders = d.holders;
      mechanism = d.mechanism;
    }

-- A device with other connections.
abbrev pub with_connections : Device → List Connection → Device
with_connections d connections =
    record {
      reading = d.reading;
      connections = connections;
      subscriptions = d.subscriptions;
      mutes = d.mutes;
      holders = d.holders;
      mechanism = d.mechanism;
    }

-- A device with other subscription entries.
abbrev pub with_subscriptions : Device → List Subscription → Device
with_subscriptions d subscriptions =
    record {
      reading = d.reading;
      connections = d.connections;
      subscriptions = subscriptions;
      mutes = d.mutes;
      holders = d.holders;
      mechanism = d.mechanism;
    }

-- A device with other mutes.
abbrev pub with_mutes : Device → List ℕ → Device
with_mutes d mutes =
    record {
      reading = d.reading;
      connections = d.connections;
      subscriptions = d.subscriptions;
      mutes = mutes;
      holders = d.holders;
      mechanism = d.mechanism;
    }

-- A device with other holders.
abbrev pub with_holders : Device → List ℕ → Device
with_holders d holders =
    record {
      reading = d.reading;
      connections = d.connections;
      subscriptions = d.subscriptions;
      mutes = d.mutes;
      holders = holders;
      mechanism = d.mechanism;
    }

-- A device with another mechanism.
abbrev pub with_mechanism : Device → Mechanism → Device
with_mechanism d mechanism =
    record {
      reading = d.reading;
      connections = d.connections;
      subscriptions = d.subscriptions;
      mutes = d.mutes;
      holders = d.holders;
      mechanism = mechanism;
    }
