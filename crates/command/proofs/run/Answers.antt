-- Each method's step is the command, since the method that was found has its number.
use Rattle.std.proofs.Common.{◌≡◌, length, arith}
use Rattle.objects.specs.declared.Method.TheVariants as method
use Rattle.command.proofs.Acts.{asked, err_answer, lock_muting, unlock_muting, get_muting, set_muting, mute_asked, value_given}
use Rattle.command.proofs.Acts.{ran_stopped, ran_class, ran_lockable, ran_lock, ran_unlock, ran_get, ran_set}
use Rattle.command.proofs.Books.{added_formed, removed_formed, armed_formed, ran_add, ran_remove, ran_arm}
use Rattle.command.proofs.run.Goals as goal

pub returns-in_err-first_status : goal.returns-in_err-first_status
returns-in_err-first_status c =
    let e = c.in_err-first_status.ensures in
    ran_stopped _ _ _ _ _ _ c.in_err-first_status.field-0.0 e c.from_residual.result c.from_residual.ensures.1

pub place-requires : goal.place-requires
place-requires c =
    let e = c.in_ok-first_status.ensures in
    mute_asked _ _ _ _ e.1 (lock_muting _ (asked _ method.Lock e.0 c.in-Lock.is))

pub place-requires-in-Unlock : goal.place-requires-in-Unlock
place-requires-in-Unlock c =
    let e = c.in_ok-first_status.ensures in
    mute_asked _ _ _ _ e.1 (unlock_muting _ (asked _ method.Unlock e.0 c.in-Unlock.is))

pub place-requires-in-Get : goal.place-requires-in-Get
place-requires-in-Get c =
    let e = c.in_ok-first_status.ensures in
    mute_asked _ _ _ _ e.1 (get_muting _ (asked _ method.Get e.0 c.in-Get.is))

pub place-at-requires : goal.place-at-requires
place-at-requires c =
    let e = c.in_ok-first_status.ensures in
    mute_asked _ _ _ _ e.1 (set_muting _ (asked _ method.Set e.0 c.in-Set.is))

pub subscribe-requires : goal.subscribe-requires
subscribe-requires c =
    let e = c.in_ok-first_status.ensures in
    added_formed _ _ _ _ e.1 (asked _ method.Add e.0 c.in-Add.is)

pub unsubscribe-requires : goal.unsubscribe-requires
unsubscribe-requires c =
    let e = c.in_ok-first_status.ensures in
    removed_formed _ _ _ _ e.1 (asked _ method.Remove e.0 c.in-Remove.is)

pub set_key-requires : goal.set_key-requires
set_key-requires c =
    let e = c.in_ok-first_status.ensures in
    armed_formed _ _ _ _ e.1 (asked _ method.ResetKey e.0 c.in-ResetKey.is)

pub bounds-part-0 : goal.bounds-part-0
bounds-part-0 c =
    let e = c.in_ok-first_status.ensures in
    let w : length c.args.part.now ≡ 1 = value_given _ _ _ _ e.1 (asked _ method.Set e.0 c.in-Set.is) in
    omega arith

pub returns-in-Class : goal.returns-in-Class
returns-in-Class c =
    let e = c.in_ok-first_status.ensures in
    rw c.of.ensures (ran_class _ _ _ _ e.1 c.args.device.now c.args.n (asked _ method.Class e.0 c.in-Class.is))

pub returns-in-Lockable : goal.returns-in-Lockable
returns-in-Lockable c =
    let e = c.in_ok-first_status.ensures in
    ran_lockable _ _ _ _ e.1 _ _ _ c.is_mute.ensures (asked _ method.Lockable e.0 c.in-Lockable.is)

pub returns-in-Lock : goal.returns-in-Lock
returns-in-Lock c =
    let e = c.in_ok-first_status.ensures in
    let k = asked _ method.Lock e.0 c.in-Lock.is in
    ran_lock _ _ _ _ e.1 _ _ (lock_muting _ k) _ c.place.ensures k _ (c.lock.ensures c.args.device.now.mutes)

pub returns-in-Unlock : goal.returns-in-Unlock
returns-in-Unlock c =
    let e = c.in_ok-first_status.ensures in
    let k = asked _ method.Unlock e.0 c.in-Unlock.is in
    ran_unlock _ _ _ _ e.1 _ _ (unlock_muting _ k) _ c.place-in-Unlock.ensures k _ (c.unlock.ensures c.args.device.now.mutes)

pub returns-in-Get : goal.returns-in-Get
returns-in-Get c =
    let e = c.in_ok-first_status.ensures in
    let k = asked _ method.Get e.0 c.in-Get.is in
    ran_get _ _ _ _ e.1 _ _ (get_muting _ k) _ c.place-in-Get.ensures k _ (c.get.ensures c.args.device.now.holders c.args.n)

pub returns-in-Add : goal.returns-in-Add
returns-in-Add c =
    let e = c.in_ok-first_status.ensures in
    ran_add _ _ _ _ e.1 c.args.device.now _ (asked _ method.Add e.0 c.in-Add.is) _ _ c.subscribe.ensures

pub returns-in-Remove : goal.returns-in-Remove
returns-in-Remove c =
    let e = c.in_ok-first_status.ensures in
    ran_remove _ _ _ _ e.1 c.args.device.now _ (asked _ method.Remove e.0 c.in-Remove.is) _ _ c.unsubscribe.ensures

pub returns-in-ResetKey : goal.returns-in-ResetKey
returns-in-ResetKey c =
    let e = c.in_ok-first_status.ensures in
    ran_arm _ _ _ _ e.1 c.args.device.now _ (asked _ method.ResetKey e.0 c.in-ResetKey.is) _ _ c.set_key.ensures

pub returns-in_err-set-in-Set : goal.returns-in_err-set-in-Set
returns-in_err-set-in-Set c =
    let e = c.in_ok-first_status.ensures in
    let k = asked _ method.Set e.0 c.in-Set.is in
    let r = c.from_residual-in_err-set-in-Set in
    rw (err_answer r.result c.in_err-set-in-Set.field-0.0 r.ensures.1)
    (ran_set _ _ _ _ e.1 c.args.device.now c.args.n (set_muting _ k) _ c.place-at.ensures k _ c.in_err-set-in-Set.ensures)

pub returns-then-branch : goal.returns-then-branch
returns-then-branch c =
    let e = c.in_ok-first_status.ensures in
    let k = asked _ method.Set e.0 c.in-Set.is in
    rw c.all_marked.ensures
    (ran_set _ _ _ _ e.1 c.args.device.now c.args.n (set_muting _ k) _ c.place-at.ensures k _ (rw c.if-branch.true at c.in_ok-set-in-Set.ensures))

pub returns-else-branch : goal.returns-else-branch
returns-else-branch c =
    let e = c.in_ok-first_status.ensures in
    let k = asked _ method.Set e.0 c.in-Set.is in
    ran_set _ _ _ _ e.1 c.args.device.now c.args.n (set_muting _ k) _ c.place-at.ensures k _ (rw c.if-branch.false at c.in_ok-set-in-Set.ensures)
