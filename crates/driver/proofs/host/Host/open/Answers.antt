-- `driver::host::Host::open` does what `after_open` says.
use Rattle.std.proofs.Common.{Err, rules, ◌≡◌}
use Rattle.driver.specs.Store.{host_of}
use Rattle.driver.proofs.HostLaws.{did_open, did_refuse}
use Rattle.driver.proofs.host.Host.open.Goals as goal

pub returns-in_err-reply : goal.returns-in_err-reply
returns-in_err-reply c =
    let refused : c.from_residual.result ≡ Err c.in_err-reply.field-0.0 = search (rules) in
    rw refused (did_refuse c.args.n c.args.k (host_of c.args.self.now) c.resize.new.list.items c.resize.ensures.within c.resize.ensures.beyond (search (rules)) (search (rules)))

pub returns : goal.returns
returns c =
    did_open c.args.n c.args.k (host_of c.args.self.now) c.resize.new.list.items c.resize.ensures.within c.resize.ensures.beyond (search (rules)) (search (rules)) (search (rules))
