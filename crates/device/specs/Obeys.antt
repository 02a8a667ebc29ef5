-- R61. The record rules of a device: all but R61e.
use Rattle.std.specs.Prelude.{Bool, ◌&&◌}
use Rattle.laws.specs.Lists.{all, all_pairs}
use Rattle.mechanism.specs.Obeys.{mechanism_obeys}
use Rattle.connection.specs.Obeys.{connection_obeys}
use Rattle.subscription.specs.Obeys.{entry_obeys, apart}
use Rattle.objects.specs.Tests.{is_mute_value}
use Rattle.holders.specs.Holders.{holder_obeys}
use Rattle.device.specs.declared.Device.{Device}

-- R61. The device keeps all record rules but R61e.
unfoldable pub device_obeys : Device → Bool
device_obeys d =
    all connection_obeys d.connections && all (entry_obeys d.connections) d.subscriptions && all_pairs apart d.subscriptions
    && all is_mute_value d.mutes && all (holder_obeys d.connections) d.holders && mechanism_obeys d.mechanism
