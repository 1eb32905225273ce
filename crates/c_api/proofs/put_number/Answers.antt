-- `c_api::put_number` meets its contract.
use Rattle.c_api.proofs.SetCarried.{number_put}
use Rattle.c_api.proofs.put_number.Goals as goal

pub returns : goal.returns
returns c = number_put c.args.out.now _ _ c.args.x _ c.requires
    c.bytes4-bytes.ensures c.put.ensures
