-- What comes of a request that changes no file and runs nothing: `IsServed` and `IsUnserved`, where nothing is saved. One that does not read standard input
-- leaves that unused.
use Rattle.std.specs.Prelude.{[]}
use Rattle.ioa_device.specs.Devices.{Change}
use Rattle.ioa_request.specs.declared.request.Request.{Request}
use Rattle.ioa_serving.specs.declared.failure.Failure.{Failure}
use Rattle.ioa_serving.specs.declared.served.Served.{Served}
use Rattle.ioa_serving.specs.Worlds.{Files}
use Rattle.ioa_serving.specs.Serving.{IsServed, IsUnserved, reports_of}

abbrev pub Serves : Files → Request → Change → Change → Served → Type 0
Serves files request input output served = IsServed files request input output (reports_of served) [] served.status

abbrev pub Fails : Files → Request → Change → Change → Failure → Type 0
Fails files request input output e = IsUnserved files request input output [] e
