use Rattle.std.proofs.Common.{ap}
use Rattle.std.proofs.lemmas.Result.{err_from_is_err_and}
use Rattle.mb_desc.specs.Descriptors.{is_configurable}
use Rattle.mb_frames.proofs.Constructing.{ready-prototypes}
use Rattle.mb_frames.proofs.Readying.{changed-same}
use Rattle.mb_model.specs.BuiltIns.ProxyMaking.{proxy_and_revoker}
use Rattle.mb_scriptproxy.proofs.Revokers.{no-proxy, no-revoke, pair-open, pair-second, pair-stands, pair-third}
use Rattle.mb_scriptproxy.proofs.Standing.{stands-held, stands-went}
use Rattle.mb_scriptproxy.proofs.making.proxy_and_revoker.Goals as goal
use Rattle.mb_world.specs.Image.{names_of, object_in}

pub built_in-prototype-requires : goal.built_in-prototype-requires
built_in-prototype-requires c =
    (ready-prototypes c.args.w.now c.args.home c.requires.acts.ready c.requires.acts.side).object

pub put-requires-clause-name : goal.put-requires-clause-name
put-requires-clause-name c = no-proxy

pub put-requires-2-clause-name : goal.put-requires-2-clause-name
put-requires-2-clause-name c = no-revoke

pub returns-clause-makes : goal.returns-clause-makes
returns-clause-makes c =
    let o = pair-open c.args.w.now c.make.new.self c.args.home c.args.proxy c.args.revoker c.in_ok-pair.pair
    c.built_in-prototype.result
    c.requires.acts.ready c.requires.acts.side c.requires.acts.holds.0 c.requires.acts.holds.1.0
    c.built_in-prototype.ensures.held c.built_in-prototype.ensures.value c.in_ok-pair.ensures.made
    c.in_ok-pair.ensures.id in
    let u = c.in_ok-put.ensures.stays_open c.args.home o (ap is_configurable c.open_object.ensures) in
    stands-went c.args.w.now c.put-2.new.w c.args.home c.in_ok-pair.pair (proxy_and_revoker c.args.home.0 (object_in
    (names_of c.args.w.now) c.args.proxy)
    (object_in (names_of c.args.w.now) c.args.revoker))
    (pair-stands c.args.w.now c.make.new.self c.args.home c.args.proxy c.args.revoker c.in_ok-pair.pair
    c.built_in-prototype.result
    c.requires.acts.ready c.requires.acts.side c.requires.acts.holds.0 c.requires.acts.holds.1.0
    c.built_in-prototype.ensures.held c.built_in-prototype.ensures.value c.in_ok-pair.ensures.made
    c.in_ok-pair.ensures.id
    c.put.new.w c.open_object.result c.open_object.ensures c.put.result (c.put.ensures.keeps c.args.home o)
    c.in_ok-put.ensures.puts u c.put-2.new.w c.open_object-2.result c.open_object-2.ensures c.put-2.result
    (c.put-2.ensures.keeps c.args.home u)
    c.in_ok-put-2.ensures.puts
    (c.in_ok-put-2.ensures.stays_open c.args.home u (ap is_configurable c.open_object-2.ensures)))

pub returns-clause-keeps : goal.returns-clause-keeps
returns-clause-keeps c =
    let o = pair-open c.args.w.now c.make.new.self c.args.home c.args.proxy c.args.revoker c.in_ok-pair.pair
    c.built_in-prototype.result
    c.requires.acts.ready c.requires.acts.side c.requires.acts.holds.0 c.requires.acts.holds.1.0
    c.built_in-prototype.ensures.held c.built_in-prototype.ensures.value c.in_ok-pair.ensures.made
    c.in_ok-pair.ensures.id in
    let u = c.in_ok-put.ensures.stays_open c.args.home o (ap is_configurable c.open_object.ensures) in
    record {
      changed = pair-third c.args.w.now c.make.new.self c.args.home c.args.proxy c.args.revoker c.in_ok-pair.pair
          c.built_in-prototype.result
          c.requires.acts.ready c.requires.acts.side c.requires.acts.holds.0 c.requires.acts.holds.1.0
          c.built_in-prototype.ensures.held c.built_in-prototype.ensures.value c.in_ok-pair.ensures.made
          c.in_ok-pair.ensures.id
          c.put.new.w c.open_object.result c.open_object.ensures c.put.result (c.put.ensures.keeps c.args.home o)
          c.in_ok-put.ensures.puts u c.put-2.new.w c.open_object-2.result c.open_object-2.ensures c.put-2.result
          (c.put-2.ensures.keeps c.args.home u);
      holds = (
        stands-held c.args.w.now c.put-2.new.w c.args.home c.in_ok-pair.pair (proxy_and_revoker c.args.home.0
            (object_in (names_of c.args.w.now) c.args.proxy)
            (object_in (names_of c.args.w.now) c.args.revoker))
            (pair-stands c.args.w.now c.make.new.self c.args.home c.args.proxy c.args.revoker c.in_ok-pair.pair
            c.built_in-prototype.result
            c.requires.acts.ready c.requires.acts.side c.requires.acts.holds.0 c.requires.acts.holds.1.0
            c.built_in-prototype.ensures.held c.built_in-prototype.ensures.value c.in_ok-pair.ensures.made
            c.in_ok-pair.ensures.id
            c.put.new.w c.open_object.result c.open_object.ensures c.put.result (c.put.ensures.keeps c.args.home o)
            c.in_ok-put.ensures.puts u c.put-2.new.w c.open_object-2.result c.open_object-2.ensures c.put-2.result
            (c.put-2.ensures.keeps c.args.home u)
            c.in_ok-put-2.ensures.puts
            (c.in_ok-put-2.ensures.stays_open c.args.home u (ap is_configurable c.open_object-2.ensures))),
        tt,
      );
    }

pub returns-in_err-pair-clause-keeps : goal.returns-in_err-pair-clause-keeps
returns-in_err-pair-clause-keeps c =
    let p = err_from_is_err_and c.from_residual.result c.from_residual.ensures.1 in
    rw (p.1, c.in_err-pair.ensures.kept)
    (record { changed = changed-same c.args.home c.args.w.now c.requires.acts.ready; holds = tt })

pub returns-in_err-put-clause-keeps : goal.returns-in_err-put-clause-keeps
returns-in_err-put-clause-keeps c =
    let p = err_from_is_err_and c.from_residual-in_err-put.result c.from_residual-in_err-put.ensures.1 in
    let o = pair-open c.args.w.now c.make.new.self c.args.home c.args.proxy c.args.revoker c.in_ok-pair.pair
    c.built_in-prototype.result
    c.requires.acts.ready c.requires.acts.side c.requires.acts.holds.0 c.requires.acts.holds.1.0
    c.built_in-prototype.ensures.held c.built_in-prototype.ensures.value c.in_ok-pair.ensures.made
    c.in_ok-pair.ensures.id in
    rw p.1 (record {
      changed = pair-second c.args.w.now c.make.new.self c.args.home c.args.proxy c.args.revoker c.in_ok-pair.pair
          c.built_in-prototype.result
          c.requires.acts.ready c.requires.acts.side c.requires.acts.holds.0 c.requires.acts.holds.1.0
          c.built_in-prototype.ensures.held c.built_in-prototype.ensures.value c.in_ok-pair.ensures.made
          c.in_ok-pair.ensures.id
          c.put.new.w c.open_object.result c.open_object.ensures c.put.result (c.put.ensures.keeps c.args.home o);
      holds = tt;
    })

pub returns-in_err-put-2-clause-keeps : goal.returns-in_err-put-2-clause-keeps
returns-in_err-put-2-clause-keeps c =
    let p = err_from_is_err_and c.from_residual-in_err-put-2.result c.from_residual-in_err-put-2.ensures.1 in
    let o = pair-open c.args.w.now c.make.new.self c.args.home c.args.proxy c.args.revoker c.in_ok-pair.pair
    c.built_in-prototype.result
    c.requires.acts.ready c.requires.acts.side c.requires.acts.holds.0 c.requires.acts.holds.1.0
    c.built_in-prototype.ensures.held c.built_in-prototype.ensures.value c.in_ok-pair.ensures.made
    c.in_ok-pair.ensures.id in
    let u = c.in_ok-put.ensures.stays_open c.args.home o (ap is_configurable c.open_object.ensures) in
    rw p.1 (record {
      changed = pair-third c.args.w.now c.make.new.self c.args.home c.args.proxy c.args.revoker c.in_ok-pair.pair
          c.built_in-prototype.result
          c.requires.acts.ready c.requires.acts.side c.requires.acts.holds.0 c.requires.acts.holds.1.0
          c.built_in-prototype.ensures.held c.built_in-prototype.ensures.value c.in_ok-pair.ensures.made
          c.in_ok-pair.ensures.id
          c.put.new.w c.open_object.result c.open_object.ensures c.put.result (c.put.ensures.keeps c.args.home o)
          c.in_ok-put.ensures.puts u c.put-2.new.w c.open_object-2.result c.open_object-2.ensures c.put-2.result
          (c.put-2.ensures.keeps c.args.home u);
      holds = tt;
    })
