mod HandleVouches
