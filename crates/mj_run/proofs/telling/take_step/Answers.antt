use Rattle.mj_run.proofs.telling.take_step.Goals as goal

pub returns-clause-stepped : goal.returns-clause-stepped
returns-clause-stepped c =
    let did = c.in_ok-step.ensures in
    record {
      made = did.made;
      fits = did.fits;
      room = c.requires.room;
      done = did.flag;
      state_ = did.state;
      report_ = did.report;
      dual_ = did.dual;
      count = did.count;
      rows_ = did.rows;
      can_push = did.forces;
      mass_ = did.mass;
      load_ = did.whole_load;
      accel_ = did.accel;
      can_enclose = did.can_enclose;
      free_load_ = did.load;
      smooth_ = did.smooth;
    }
