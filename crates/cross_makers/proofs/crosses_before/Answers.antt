-- `cross_makers::crosses_before` meets its contract.
use Rattle.cross_makers.proofs.Limits.{test-is}
use Rattle.cross_makers.proofs.Candidates.{rank-higher, rank-lower, rank-equal}
use Rattle.cross_makers.proofs.crosses_before.Goals as goal

pub returns-then-y-x : goal.returns-then-y-x
returns-then-y-x c = rank-higher c.args.a c.args.m
    (test-is c.args.m.limit c.args.a.limit (record { sfits = c.struct_told-2-1.given.1.1.1.1.1.1.0.1 })
    (record { sfits = c.struct_told-1.given.1.1.1.1.1.1.0.1 }) _ c.if-y-x.true)

pub returns-then-x-y : goal.returns-then-x-y
returns-then-x-y c = rank-lower c.args.a c.args.m
    (test-is c.args.m.limit c.args.a.limit (record { sfits = c.struct_told-2-1.given.1.1.1.1.1.1.0.1 })
    (record { sfits = c.struct_told-1.given.1.1.1.1.1.1.0.1 }) _ c.if-y-x.false)
    (test-is c.args.a.limit c.args.m.limit
    (record { sfits = c.struct_told-1.given.1.1.1.1.1.1.0.1 })
    (record { sfits = c.struct_told-2-1.given.1.1.1.1.1.1.0.1 }) _ c.if-x-y.true)

pub returns : goal.returns
returns c = rank-equal c.args.a c.args.m
    (test-is c.args.m.limit c.args.a.limit
    (record { sfits = c.struct_told-2-1.given.1.1.1.1.1.1.0.1 })
    (record { sfits = c.struct_told-1.given.1.1.1.1.1.1.0.1 }) _
    c.if-y-x.false)
    (test-is c.args.a.limit c.args.m.limit
    (record { sfits = c.struct_told-1.given.1.1.1.1.1.1.0.1 })
    (record { sfits = c.struct_told-2-1.given.1.1.1.1.1.1.0.1 }) _ c.if-x-y.false)
