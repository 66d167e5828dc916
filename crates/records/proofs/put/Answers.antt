use mathlib.Core.Path.{◌≡◌}
use Prim.Native.Nat.{◌+◌}
use native.Mathlib.Omega.{arith}
use Rattle.records.specs.Le.{le}
use Rattle.records.specs.Layout.{length_of, kind_of, kind_of_order, head_of, body_of, body_of_order, bytes_of_timed, bytes_of_order}
use Rattle.records.proofs.Places.{sets-append, sets-append-two}
use Rattle.records.proofs.Written.{timed-over, order-over, body-over}
use Rattle.records.proofs.put.Goals as goal

pub put_head-requires : goal.put_head-requires
put_head-requires c = omega (arith, body-over c.args.body, c.requires)

pub put_number-requires : goal.put_number-requires
put_number-requires c =
    let room = rw c.in-Timed.is at c.requires in
    omega (arith, timed-over c.in-Timed.action, room)

pub overflow_sub-len : goal.overflow_sub-len
overflow_sub-len c =
    rw (c.length-len.ensures, c.kind_of-kind.ensures, c.in-Timed.is) (timed-over c.in-Timed.action)

pub put_number-requires-in-Timed : goal.put_number-requires-in-Timed
put_number-requires-in-Timed c =
    let room = rw c.in-Timed.is at c.requires in
    let len : c.length-len.result ≡ length_of (kind_of c.in-Timed.action) = rw (c.length-len.ensures, c.kind_of-kind.ensures, c.in-Timed.is) in
    omega (arith, timed-over c.in-Timed.action, room, len)

pub overflow_sub-len-in-Order : goal.overflow_sub-len-in-Order
overflow_sub-len-in-Order c =
    rw (c.length-len.ensures, c.kind_of-kind.ensures, c.in-Order.is) (order-over c.in-Order.order)

pub put_number-requires-in-Order : goal.put_number-requires-in-Order
put_number-requires-in-Order c =
    let room = rw c.in-Order.is at c.requires in
    let len : c.length-len.result ≡ length_of (kind_of_order c.in-Order.order) = rw (c.length-len.ensures, c.kind_of-kind.ensures, c.in-Order.is) in
    omega (arith, order-over c.in-Order.order, room, len)

pub returns-in-Timed : goal.returns-in-Timed
unfolding bytes_of_timed le
returns-in-Timed c =
    let a = c.args in
    let t = c.in-Timed in
    let place : a.at + 12 ≡ a.at + 4 + 8 = omega arith in
    rw (
      c.put_number-in-Timed.ensures,
      c.put_number.ensures,
      c.put_head.ensures,
      c.length-len.ensures,
      c.kind_of-kind.ensures,
      t.is,
      c.body_of.ensures,
      place,
    )
    (sets-append-two a.out.now a.at (head_of (kind_of t.action)) (le 8 t.time) (body_of t.action))

pub returns-in-Order : goal.returns-in-Order
unfolding bytes_of_order le
returns-in-Order c =
    let a = c.args in
    let o = c.in-Order in
    rw (
      c.put_number-in-Order.ensures,
      c.put_head.ensures,
      c.length-len.ensures,
      c.kind_of-kind.ensures,
      o.is,
      c.body_of_order.ensures,
    )
    (sets-append a.out.now a.at (head_of (kind_of_order o.order)) (body_of_order o.order))
