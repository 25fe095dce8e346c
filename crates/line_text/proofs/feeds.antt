pub mod WhatIsRead
